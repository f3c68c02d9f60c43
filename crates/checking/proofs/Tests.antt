-- The answer of a list of tests, one test or one part of the list at a time.
-- Assumes nothing.
use mathlib.Core.Path.{◌≡◌, sym, ◌∙◌}
use mathlib.Core.Bool.{Bool, true, false}
use mathlib.Core.List.{List, [], ◌∷◌, ◌++◌}
use Prim.Native.Nat.{ℕ}
use native.Mathlib.Omega.{arith}
use Rattle.sheet.specs.Check.{Answer, refused, accepted, Test, test, answer}
use Rattle.sheet.proofs.Tests.{answer-++, answer-passes, accepted_passes, refused_first}

module _ {A : Type 0} (n i : ℕ) (ts : List Test) (a : A) where
  pub stops : {fails : Bool} → fails ≡ true → answer (test fails n i ∷ ts) a ≡ refused n i
  unfolding answer
  stops h = rw h

  pub goes_on : {fails : Bool} → fails ≡ false → answer (test fails n i ∷ ts) a ≡ answer ts a
  unfolding answer
  goes_on h = rw h

pub last-passes : {A : Type 0} (n i : ℕ) (a : A) {fails : Bool} → fails ≡ false → answer (test fails n i ∷ []) a ≡ accepted a
unfolding answer
last-passes n i a h = rw h

-- a part that accepts leaves the answer to the tests behind it
pub accepted-++ : {A : Type 0} {a' : A} (ts us : List Test) (a : A) → accepted a' ≡ answer ts a → answer us a ≡ answer (ts ++ us) a
accepted-++ {a' = a'} ts us a h = sym (answer-++ ts us a (accepted_passes ts a a' (sym h)).0)

-- accepted answers carry the value at hand
pub accepted_is : {A : Type 0} {a a' : A} (ts : List Test) → accepted a' ≡ answer ts a → answer ts a ≡ accepted a
accepted_is {a = a} {a' = a'} ts h = answer-passes ts a (accepted_passes ts a a' (sym h)).0

-- four parts, of which the first that refuses decides
module _ {A : Type 0} (s q m t : List Test) (a : A) where
  abbrev whole : Answer A
  whole = answer (s ++ q ++ m ++ t) a

  pub first_refuses : {n i : ℕ} → refused n i ≡ answer s a → refused n i ≡ whole
  first_refuses h = refused_first (s ++ q ++ m) t a a (refused_first (s ++ q) m a a (refused_first s q a a h))

  module _ {a₁ : A} (first : accepted a₁ ≡ answer s a) where
    pub second-refuses : {n i : ℕ} → refused n i ≡ answer q a → refused n i ≡ whole
    second-refuses h = refused_first (s ++ q ++ m) t a a (refused_first (s ++ q) m a a (h ∙ accepted-++ s q a first))

    module _ {a₂ : A} (second : accepted a₂ ≡ answer q a) where
      pub third-refuses : {n i : ℕ} → refused n i ≡ answer m a → refused n i ≡ whole
      third-refuses h = refused_first (s ++ q ++ m) t a a (h ∙ accepted-++ (s ++ q) m a (second ∙ accepted-++ s q a first))

      pub last-decides : {a₃ : A} → accepted a₃ ≡ answer m a → answer t a ≡ whole
      last-decides h = accepted-++ (s ++ q ++ m) t a (h ∙ accepted-++ (s ++ q) m a (second ∙ accepted-++ s q a first))

pub never_both : {A : Type 0} {B : Type 0} {n i : ℕ} {a : A} → refused n i ≡ accepted a → B
never_both h = let z : ◌≡◌ {A = ℕ} 0 1 = cc in absurd (omega arith)
