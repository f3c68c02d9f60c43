-- The lists below the header, word for word.
-- Assumes nothing.
use Rattle.std.specs.Prelude.{Bool, true, false, not, List, [], ◌∷◌, ℕ, zero, suc}
use Rattle.formula.specs.Tree.{Quantifier, Prefix}
use Rattle.sheet.specs.Qdimacs.{Token, opener, plain, minus, other}

-- between two quantifier lines, or within one
pub data State : Type 0 where
  between : State
  within : Quantifier → State

-- quantifier lines are plain numbers ended by 0, up to where clauses begin
unfoldable pub ordered : State → List Token → Bool
ordered between [] = true
ordered (within q) [] = false
ordered between (opener q ∷ ts) = ordered (within q) ts
ordered between (plain n ∷ ts) = true
ordered between (minus n ∷ ts) = true
ordered between (other ∷ ts) = true
ordered (within q) (opener r ∷ ts) = false
ordered (within q) (plain zero ∷ ts) = ordered between ts
ordered (within q) (plain (suc n) ∷ ts) = ordered (within q) ts
ordered (within q) (minus n ∷ ts) = false
ordered (within q) (other ∷ ts) = false

-- the words from the first clause on
unfoldable pub clause_tokens : State → List Token → List Token
clause_tokens s [] = []
clause_tokens between (opener q ∷ ts) = clause_tokens (within q) ts
clause_tokens between (plain n ∷ ts) = plain n ∷ ts
clause_tokens between (minus n ∷ ts) = minus n ∷ ts
clause_tokens between (other ∷ ts) = other ∷ ts
clause_tokens (within q) (opener r ∷ ts) = []
clause_tokens (within q) (plain zero ∷ ts) = clause_tokens between ts
clause_tokens (within q) (plain (suc n) ∷ ts) = clause_tokens (within q) ts
clause_tokens (within q) (minus n ∷ ts) = []
clause_tokens (within q) (other ∷ ts) = []

-- the bindings of the quantifier lines
unfoldable pub bound_from : State → List Token → Prefix
bound_from s [] = []
bound_from between (opener q ∷ ts) = bound_from (within q) ts
bound_from between (plain n ∷ ts) = []
bound_from between (minus n ∷ ts) = []
bound_from between (other ∷ ts) = []
bound_from (within q) (opener r ∷ ts) = []
bound_from (within q) (plain zero ∷ ts) = bound_from between ts
bound_from (within q) (plain (suc n) ∷ ts) = record { quantifier = q; variable = suc n } ∷ bound_from (within q) ts
bound_from (within q) (minus n ∷ ts) = []
bound_from (within q) (other ∷ ts) = []

-- clauses are whole numbers, the last one ended; whether one is open
unfoldable pub whole_lists : Bool → List Token → Bool
whole_lists o [] = not o
whole_lists o (opener q ∷ ts) = false
whole_lists o (plain zero ∷ ts) = whole_lists false ts
whole_lists o (plain (suc n) ∷ ts) = whole_lists true ts
whole_lists o (minus n ∷ ts) = whole_lists true ts
whole_lists o (other ∷ ts) = false

-- the words that end no list
unfoldable pub numbers : List Token → List Token
numbers [] = []
numbers (opener q ∷ ts) = opener q ∷ numbers ts
numbers (plain zero ∷ ts) = numbers ts
numbers (plain (suc n) ∷ ts) = plain (suc n) ∷ numbers ts
numbers (minus n ∷ ts) = minus n ∷ numbers ts
numbers (other ∷ ts) = other ∷ numbers ts

-- how many lists are ended, and how many words the first one has
unfoldable pub ends : List Token → ℕ
ends [] = 0
ends (opener q ∷ ts) = ends ts
ends (plain zero ∷ ts) = suc (ends ts)
ends (plain (suc n) ∷ ts) = ends ts
ends (minus n ∷ ts) = ends ts
ends (other ∷ ts) = ends ts

unfoldable pub first_length : List Token → ℕ
first_length [] = 0
first_length (opener q ∷ ts) = suc (first_length ts)
first_length (plain zero ∷ ts) = 0
first_length (plain (suc n) ∷ ts) = suc (first_length ts)
first_length (minus n ∷ ts) = suc (first_length ts)
first_length (other ∷ ts) = suc (first_length ts)
