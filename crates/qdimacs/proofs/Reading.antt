-- What well listed words say, word for word.
-- Assumes nothing.
use mathlib.Core.Path.{◌≡◌, refl, sym, ap, ◌∙◌}
use mathlib.Core.Bool.{Bool, true, false, ◌&&◌, ◌||◌, cond, false≢true}
use mathlib.Core.List.{List, [], ◌∷◌, ◌++◌, tail, flatten, flat_map}
use Prim.Native.Nat.{ℕ, zero, suc, ◌+◌}
use native.Mathlib.Omega.{arith}
use lib.Dec.{eqb, leb, eqb-suc-zero, eqb-zero-suc, leb-zero}
use lib.ListN.{length}
use Rattle.formula.specs.Tree.{Quantifier, Prefix, rows, rows_all}
use Rattle.formula.proofs.Booleans.{and_parts}
use Rattle.sheet.specs.Qdimacs.{is_nil, all, split, Token, opener, plain, minus, other, is_whole, pieces}
use Rattle.sheet.specs.Qdimacs.{ended_lists, is_quantified, are_clauses, quantified, bindings, bound, clauses, literals, clause_trees, named, numbers_of}
use Rattle.sheet.specs.Texts.{up_to, lists}
use Rattle.sheet.proofs.Qdimacs.Accepted.{whole_unquantified}
use Rattle.sheet.proofs.Qdimacs.Joined.{clauses-bind-none, clauses-all}
use Rattle.qdimacs.specs.Inner.Lists.{State, between, within, ordered, clause_tokens, bound_from, whole_lists, numbers, ends}
use Rattle.qdimacs.proofs.Pieces.{open_part, lists_end, lists_more, onto, clauses_by, listed-clauses, open_clauses, whole, in_line, order_by, listed}

-- the first list and the others
abbrev pub first : List (List Token) → List Token
first [] = []
first (l ∷ ls) = l

-- clauses

no_bindings : (l : List Token) → all is_whole l ≡ true → bindings l ≡ []
unfolding bindings all
no_bindings [] h = refl
no_bindings (opener q ∷ l) h = absurd (false≢true h)
no_bindings (plain n ∷ l) h = refl
no_bindings (minus n ∷ l) h = refl
no_bindings (other ∷ l) h = absurd (false≢true h)

clauses-numbers : (ls : List (List Token)) → are_clauses ls ≡ true → flat_map numbers_of ls ≡ flatten ls
unfolding are_clauses all flat_map flatten numbers_of
clauses-numbers [] h = refl
clauses-numbers (l ∷ ls) h =
    let p = and_parts (all is_whole l) (are_clauses ls) h in
    ap (λ b. cond b (tail l) l ++ flat_map numbers_of ls) (whole_unquantified l p.0) ∙ ap (λ r. l ++ r) (clauses-numbers ls p.1)

-- whole lists are clauses, and one that is open has a first
are_whole : (ts : List Token) → whole_lists false ts ≡ true → are_clauses (lists ts) ≡ true
unfolding clauses_by listed-clauses
are_whole ts h = (and_parts (are_clauses (lists ts)) (is_nil (open_part ts)) (whole false ts ∙ h)).0

pub record Cons (ls : List (List Token)) : Type 0 where
  pub head : List Token
  pub others : List (List Token)
  pub is : ls ≡ head ∷ others

cons : (ls : List (List Token)) (o : Bool) → open_clauses ls o ≡ true → Cons ls
unfolding open_clauses
cons [] o h = absurd (false≢true h)
cons (l ∷ ls) o h = record { head = l; others = ls; is = refl }

pub some_list : (ts : List Token) → whole_lists true ts ≡ true → Cons (lists ts)
unfolding clauses_by
some_list ts h = cons (lists ts) (is_nil (open_part ts)) (whole true ts ∙ h)

-- the words of whole lists
flatten_onto : (t : Token) {ls : List (List Token)} → Cons ls → flatten (onto t ls) ≡ t ∷ flatten ls
unfolding flatten onto
flatten_onto t c = rw c.is

pub flatten_lists : (p : Bool) (ts : List Token) → whole_lists p ts ≡ true → flatten (lists ts) ≡ numbers ts
unfolding whole_lists numbers flatten pieces ended_lists split
flatten_lists p [] h = refl
flatten_lists p (opener q ∷ ts) h = absurd (false≢true h)
flatten_lists p (plain zero ∷ ts) h = ap flatten (lists_end ts) ∙ flatten_lists false ts h
flatten_lists p (plain (suc n) ∷ ts) h =
    ap flatten (lists_more (plain (suc n)) ts (eqb-suc-zero n)) ∙ flatten_onto (plain (suc n)) (some_list ts h) ∙ ap (λ r. plain (suc n) ∷ r) (flatten_lists true ts h)
flatten_lists p (minus n ∷ ts) h =
    ap flatten (lists_more (minus n) ts refl) ∙ flatten_onto (minus n) (some_list ts h) ∙ ap (λ r. minus n ∷ r) (flatten_lists true ts h)
flatten_lists p (other ∷ ts) h = absurd (false≢true h)

pub numbers-up_to : (n : ℕ) (ts : List Token) → all (up_to n) (numbers ts) ≡ all (up_to n) ts
unfolding numbers all
numbers-up_to n [] = refl
numbers-up_to n (opener q ∷ ts) = ap (λ b. leb 0 n && b) (numbers-up_to n ts)
numbers-up_to n (plain zero ∷ ts) = rw (leb-zero n) (numbers-up_to n ts)
numbers-up_to n (plain (suc k) ∷ ts) = ap (λ b. leb (suc k) n && b) (numbers-up_to n ts)
numbers-up_to n (minus k ∷ ts) = ap (λ b. leb (suc k) n && b) (numbers-up_to n ts)
numbers-up_to n (other ∷ ts) = ap (λ b. leb 0 n && b) (numbers-up_to n ts)

pub numbers-named : (x : ℕ) (ts : List Token) → named (suc x) (numbers ts) ≡ named (suc x) ts
unfolding numbers named
numbers-named x [] = refl
numbers-named x (opener q ∷ ts) = ap (λ b. eqb 0 (suc x) || b) (numbers-named x ts)
numbers-named x (plain zero ∷ ts) = rw (eqb-zero-suc x) (numbers-named x ts)
numbers-named x (plain (suc k) ∷ ts) = ap (λ b. eqb (suc k) (suc x) || b) (numbers-named x ts)
numbers-named x (minus k ∷ ts) = ap (λ b. eqb (suc k) (suc x) || b) (numbers-named x ts)
numbers-named x (other ∷ ts) = ap (λ b. eqb 0 (suc x) || b) (numbers-named x ts)

-- how many clauses there are, and how many rows they take
length_onto : (t : Token) (ls : List (List Token)) → length (onto t ls) ≡ length ls
unfolding onto
length_onto t [] = refl
length_onto t (l ∷ ls) = refl

pub length-lists : (ts : List Token) → length (lists ts) ≡ ends ts
unfolding ends pieces ended_lists split
length-lists [] = refl
length-lists (opener q ∷ ts) = ap length (lists_more (opener q) ts refl) ∙ length_onto (opener q) (lists ts) ∙ length-lists ts
length-lists (plain zero ∷ ts) = ap length (lists_end ts) ∙ ap suc (length-lists ts)
length-lists (plain (suc n) ∷ ts) = ap length (lists_more (plain (suc n)) ts (eqb-suc-zero n)) ∙ length_onto (plain (suc n)) (lists ts) ∙ length-lists ts
length-lists (minus n ∷ ts) = ap length (lists_more (minus n) ts refl) ∙ length_onto (minus n) (lists ts) ∙ length-lists ts
length-lists (other ∷ ts) = ap length (lists_more other ts refl) ∙ length_onto other (lists ts) ∙ length-lists ts

rows_onto : (t : Token) {ls : List (List Token)} → Cons ls → rows_all (clause_trees (onto t ls)) ≡ suc (rows_all (clause_trees ls))
unfolding onto clause_trees literals rows rows_all
rows_onto t c = rw c.is (omega arith)

pub rows-lists : (p : Bool) (ts : List Token) → whole_lists p ts ≡ true → rows_all (clause_trees (lists ts)) ≡ length ts
unfolding whole_lists clause_trees literals rows rows_all pieces ended_lists split
rows-lists p [] h = refl
rows-lists p (opener q ∷ ts) h = absurd (false≢true h)
rows-lists p (plain zero ∷ ts) h = ap (λ ls. rows_all (clause_trees ls)) (lists_end ts) ∙ one_more (rows_all (clause_trees (lists ts))) ∙ ap suc (rows-lists false ts h)
  where
    one_more : (n : ℕ) → 1 + n ≡ suc n
    one_more n = omega arith
rows-lists p (plain (suc n) ∷ ts) h =
    ap (λ ls. rows_all (clause_trees ls)) (lists_more (plain (suc n)) ts (eqb-suc-zero n)) ∙ rows_onto (plain (suc n)) (some_list ts h) ∙ ap suc (rows-lists true ts h)
rows-lists p (minus n ∷ ts) h =
    ap (λ ls. rows_all (clause_trees ls)) (lists_more (minus n) ts refl) ∙ rows_onto (minus n) (some_list ts h) ∙ ap suc (rows-lists true ts h)
rows-lists p (other ∷ ts) h = absurd (false≢true h)

-- quantifier lines

unfoldable pub bound_by : State → List (List Token) → Prefix
bound_by between ls = bound ls
bound_by (within q) ls = quantified q (first ls) ++ bound (tail ls)

unfoldable pub clauses_of : State → List (List Token) → List (List Token)
clauses_of between ls = clauses ls
clauses_of (within q) ls = clauses (tail ls)

unfoldable pub numbers_by : State → List (List Token) → List Token
numbers_by between ls = flat_map numbers_of ls
numbers_by (within q) ls = first ls ++ flat_map numbers_of (tail ls)

-- what is well listed from a state on
abbrev pub Well : State → List Token → Type 0
Well s ts = (ordered s ts && whole_lists false (clause_tokens s ts)) ≡ true

line_cons : (ls : List (List Token)) (o : Bool) → in_line ls o ≡ true → Cons ls
unfolding in_line
line_cons [] o h = absurd (false≢true h)
line_cons (l ∷ ls) o h = record { head = l; others = ls; is = refl }

some_line : (q : Quantifier) (ts : List Token) → Well (within q) ts → Cons (lists ts)
unfolding order_by
some_line q ts h = line_cons (lists ts) (is_nil (open_part ts)) (listed (within q) ts ∙ h)

open_bound : (q : Quantifier) (ls : List (List Token)) → bound (onto (opener q) ls) ≡ bound_by (within q) ls
unfolding onto bound flat_map bindings bound_by quantified
open_bound q [] = refl
open_bound q (l ∷ ls) = refl

line-bound : (q : Quantifier) (n : ℕ) {ls : List (List Token)} → Cons ls
    → bound_by (within q) (onto (plain (suc n)) ls) ≡ record { quantifier = q; variable = suc n } ∷ bound_by (within q) ls
unfolding onto bound_by quantified
line-bound q n c = rw c.is

pub bound_is : (s : State) (ts : List Token) → Well s ts → bound_by s (lists ts) ≡ bound_from s ts
unfolding bound_by bound_from ordered clause_tokens pieces ended_lists split bound flat_map quantified
bound_is between [] h = refl
bound_is (within q) [] h = absurd (false≢true h)
bound_is between (opener q ∷ ts) h = ap bound (lists_more (opener q) ts refl) ∙ open_bound q (lists ts) ∙ bound_is (within q) ts h
bound_is between (plain n ∷ ts) h = clauses-bind-none (lists (plain n ∷ ts)) (are_whole (plain n ∷ ts) h)
bound_is between (minus n ∷ ts) h = clauses-bind-none (lists (minus n ∷ ts)) (are_whole (minus n ∷ ts) h)
bound_is between (other ∷ ts) h = clauses-bind-none (lists (other ∷ ts)) (are_whole (other ∷ ts) h)
bound_is (within q) (opener r ∷ ts) h = absurd (false≢true h)
bound_is (within q) (plain zero ∷ ts) h = ap (bound_by (within q)) (lists_end ts) ∙ bound_is between ts h
bound_is (within q) (plain (suc n) ∷ ts) h =
    ap (bound_by (within q)) (lists_more (plain (suc n)) ts (eqb-suc-zero n)) ∙ line-bound q n (some_line q ts h) ∙
    ap (λ (p : Prefix). record { quantifier = q; variable = suc n } ∷ p) (bound_is (within q) ts h)
bound_is (within q) (minus n ∷ ts) h = absurd (false≢true h)
bound_is (within q) (other ∷ ts) h = absurd (false≢true h)

open_clauses_of : (q : Quantifier) (ls : List (List Token)) → clauses (onto (opener q) ls) ≡ clauses (tail ls)
unfolding onto clauses is_quantified
open_clauses_of q [] = refl
open_clauses_of q (l ∷ ls) = refl

tail_onto : (t : Token) (ls : List (List Token)) → tail (onto t ls) ≡ tail ls
unfolding onto
tail_onto t [] = refl
tail_onto t (l ∷ ls) = refl

pub clauses_are : (s : State) (ts : List Token) → Well s ts → clauses_of s (lists ts) ≡ lists (clause_tokens s ts)
unfolding clauses_of ordered clause_tokens pieces ended_lists split clauses
clauses_are between [] h = refl
clauses_are (within q) [] h = absurd (false≢true h)
clauses_are between (opener q ∷ ts) h = ap clauses (lists_more (opener q) ts refl) ∙ open_clauses_of q (lists ts) ∙ clauses_are (within q) ts h
clauses_are between (plain n ∷ ts) h = clauses-all (lists (plain n ∷ ts)) (are_whole (plain n ∷ ts) h)
clauses_are between (minus n ∷ ts) h = clauses-all (lists (minus n ∷ ts)) (are_whole (minus n ∷ ts) h)
clauses_are between (other ∷ ts) h = clauses-all (lists (other ∷ ts)) (are_whole (other ∷ ts) h)
clauses_are (within q) (opener r ∷ ts) h = absurd (false≢true h)
clauses_are (within q) (plain zero ∷ ts) h = ap (λ (ls : List (List Token)). clauses (tail ls)) (lists_end ts) ∙ clauses_are between ts h
clauses_are (within q) (plain (suc n) ∷ ts) h =
    ap (λ (ls : List (List Token)). clauses (tail ls)) (lists_more (plain (suc n)) ts (eqb-suc-zero n)) ∙
    ap clauses (tail_onto (plain (suc n)) (lists ts)) ∙ clauses_are (within q) ts h
clauses_are (within q) (minus n ∷ ts) h = absurd (false≢true h)
clauses_are (within q) (other ∷ ts) h = absurd (false≢true h)

-- no number above n
module _ (n : ℕ) where
  abbrev below : List Token → Bool
  below ts = all (up_to n) ts

  clause_below : (ts : List Token) → whole_lists false ts ≡ true → below (flat_map numbers_of (lists ts)) ≡ below ts
  clause_below ts h =
      ap below (clauses-numbers (lists ts) (are_whole ts h) ∙ flatten_lists false ts h) ∙ numbers-up_to n ts

  open_below : (q : Quantifier) (ls : List (List Token)) → below (flat_map numbers_of (onto (opener q) ls)) ≡ below (numbers_by (within q) ls)
  unfolding onto flat_map numbers_of is_quantified numbers_by
  open_below q [] = refl
  open_below q (l ∷ ls) = refl

  line-below : (q : Quantifier) (t : Token) {ls : List (List Token)} → Cons ls
      → below (numbers_by (within q) (onto t ls)) ≡ (up_to n t && below (numbers_by (within q) ls))
  unfolding onto numbers_by all
  line-below q t c = rw c.is

  pub below_is : (s : State) (ts : List Token) → Well s ts → below (numbers_by s (lists ts)) ≡ below ts
  unfolding numbers_by ordered clause_tokens pieces ended_lists split flat_map all
  below_is between [] h = refl
  below_is (within q) [] h = absurd (false≢true h)
  below_is between (opener q ∷ ts) h =
      ap (λ ls. below (flat_map numbers_of ls)) (lists_more (opener q) ts refl) ∙ open_below q (lists ts) ∙ below_is (within q) ts h ∙
      ap (λ b. b && below ts) (sym (leb-zero n))
  below_is between (plain k ∷ ts) h = clause_below (plain k ∷ ts) h
  below_is between (minus k ∷ ts) h = clause_below (minus k ∷ ts) h
  below_is between (other ∷ ts) h = clause_below (other ∷ ts) h
  below_is (within q) (opener r ∷ ts) h = absurd (false≢true h)
  below_is (within q) (plain zero ∷ ts) h =
      ap (λ ls. below (numbers_by (within q) ls)) (lists_end ts) ∙ below_is between ts h ∙ ap (λ b. b && below ts) (sym (leb-zero n))
  below_is (within q) (plain (suc k) ∷ ts) h =
      ap (λ ls. below (numbers_by (within q) ls)) (lists_more (plain (suc k)) ts (eqb-suc-zero k)) ∙
      line-below q (plain (suc k)) (some_line q ts h) ∙ ap (λ b. leb (suc k) n && b) (below_is (within q) ts h)
  below_is (within q) (minus k ∷ ts) h = absurd (false≢true h)
  below_is (within q) (other ∷ ts) h = absurd (false≢true h)
