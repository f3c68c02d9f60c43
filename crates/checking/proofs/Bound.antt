-- The numbers bound: their order is nothing to the tests, and a table that marks them.
-- Assumes nothing.
use mathlib.Core.Path.{◌≡◌, refl, sym, ap, ◌∙◌}
use mathlib.Core.Bool.{Bool, true, false, ◌||◌}
use mathlib.Core.List.{List, [], ◌∷◌, ◌++◌}
use Prim.Native.Nat.{ℕ, zero, suc, ◌<◌}
use native.Mathlib.Omega.{arith}
use lib.Dec.{eqb}
use lib.ListN.{get_or, set, replicate, length-set, length-replicate}
use lib.Seq.{get_or-set_same, get_or-set_other}
use borrow.Author.Tests.{eqb-true, eqb-false}
use Rattle.sheet.specs.Format.{Format, Row}
use Rattle.sheet.specs.Check.{member, quantifier_tests, arguments}
use Rattle.checking.specs.Inner.Stages.{Marks}
use Rattle.formula.proofs.Booleans.{or_swap}

-- one more row at the end binds the same numbers as one more in front
pub member-last : (rs : List Row) (r : Row) (x : ℕ) → member x (arguments (rs ++ (r ∷ []))) ≡ member x (r.argument ∷ arguments rs)
unfolding member arguments
member-last [] r x = refl
member-last (s ∷ rs) r x =
    ap (λ b. eqb s.argument x || b) (member-last rs r x) ∙ or_swap (eqb s.argument x) (eqb r.argument x) (member x (arguments rs))

-- the tests ask nothing of the numbers bound but which they are
pub quantifier_tests-bound : (F : Format) (i : ℕ) (bound bound' : List ℕ) (rs : List Row)
    → ((x : ℕ) → member x bound ≡ member x bound')
    → quantifier_tests F i bound rs ≡ quantifier_tests F i bound' rs
unfolding quantifier_tests member
quantifier_tests-bound F i bound bound' [] h = refl
quantifier_tests-bound F i bound bound' (r ∷ rs) h =
    rw (
      h r.argument,
      quantifier_tests-bound F (suc i) (r.argument ∷ bound) (r.argument ∷ bound') rs (λ x. ap (λ b. eqb r.argument x || b) (h x)),
    )

-- the table

pub all_false : (n x : ℕ) → get_or (replicate n false) x false ≡ false
all_false zero x = refl
all_false (suc n) zero = refl
all_false (suc n) (suc x) = all_false n x

pub marks-none : Marks (replicate 1025 false) []
unfolding member
marks-none = record { entries = length-replicate 1025 false; entry = all_false 1025 }

pub marks_more : (table : List Bool) (bound : List ℕ) (x : ℕ) → x < 1025 → Marks table bound → Marks (set table x true) (x ∷ bound)
unfolding member
marks_more table bound x small m =
    record { entries = length-set table x true ∙ m.entries; entry = λ y. go y (eqb x y) refl }
  where
    go : (y : ℕ) (b : Bool) → eqb x y ≡ b → get_or (set table x true) y false ≡ (b || member y bound)
    go y true e = rw (← eqb-true x y e) (get_or-set_same table x true false (omega (arith, m.entries)))
    go y false e = get_or-set_other table x y true false (λ p. eqb-false x y e (sym p)) ∙ m.entry y

pub marks_same : {table : List Bool} {bound bound' : List ℕ} → ((x : ℕ) → member x bound ≡ member x bound') → Marks table bound
    → Marks table bound'
marks_same h m = record { entries = m.entries; entry = λ x. m.entry x ∙ h x }
