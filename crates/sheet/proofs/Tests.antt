-- Lists of tests: an answer is accepted exactly if its tests pass, and what passing tells.
-- Assumes nothing.
use mathlib.Core.Path.{◌≡◌, refl, sym, ap, ◌∙◌}
use mathlib.Core.Bool.{Bool, true, false, not, ◌&&◌, cond, and_assoc}
use mathlib.Core.List.{List, [], ◌∷◌, ◌++◌, append-nil}
use Prim.Native.Nat.{ℕ}
use native.Mathlib.Omega.{arith}
use borrow.Author.Tests.{not-true}
use Rattle.formula.proofs.Booleans.{and_parts}
use Rattle.sheet.specs.Check.{refused, accepted, Test, answer, passes}

-- a list that passes: its first test, and the others
pub passed-∷ : (t : Test) (ts : List Test) → passes (t ∷ ts) ≡ true → (t.fails ≡ false) × (passes ts ≡ true)
unfolding passes
passed-∷ t ts h =
    let b = and_parts (not t.fails) (passes ts) h in
    (not-true t.fails b.0, b.1)

pub passes-++ : (ts us : List Test) → passes (ts ++ us) ≡ (passes ts && passes us)
unfolding passes
passes-++ [] us = refl
passes-++ (t ∷ ts) us = ap (λ b. not t.fails && b) (passes-++ ts us) ∙ sym (and_assoc (not t.fails) (passes ts) (passes us))

pub passed-++ : (ts us : List Test) → passes (ts ++ us) ≡ true → (passes ts ≡ true) × (passes us ≡ true)
passed-++ ts us h = and_parts (passes ts) (passes us) (sym (passes-++ ts us) ∙ h)

-- tests that pass leave the answer to those behind them
pub answer-++ : {A : Type 0} (ts us : List Test) (a : A) → passes ts ≡ true → answer (ts ++ us) a ≡ answer us a
unfolding answer
answer-++ [] us a h = refl
answer-++ (t ∷ ts) us a h =
    let p = passed-∷ t ts h in
    rw p.0 (answer-++ ts us a p.1)

pub answer-passes : {A : Type 0} (ts : List Test) (a : A) → passes ts ≡ true → answer ts a ≡ accepted a
unfolding answer
answer-passes ts a h = ap (λ l. answer l a) (sym (append-nil ts)) ∙ answer-++ ts [] a h

pub accepted_passes : {A : Type 0} (ts : List Test) (a a' : A) → answer ts a ≡ accepted a' → (passes ts ≡ true) × (a ≡ a')
unfolding answer passes
accepted_passes [] a a' h = (refl, cc)
accepted_passes {A} (t ∷ ts) a a' h = go t.fails h (accepted_passes ts a a')
  where
    go : (b : Bool) → cond b (refused t.number t.place) (answer ts a) ≡ accepted a'
        → (answer ts a ≡ accepted a' → (passes ts ≡ true) × (a ≡ a')) → ((not b && passes ts) ≡ true) × (a ≡ a')
    go true e ih = let z : ◌≡◌ {A = ℕ} 0 1 = cc in absurd (omega arith)
    go false e ih = ih e

-- a refusal of the first tests is the answer, whatever would be returned and whichever tests follow
pub refused_first : {A B : Type 0} {n i : ℕ} (ts us : List Test) (a : A) (b : B) → refused n i ≡ answer ts a → refused n i ≡ answer (ts ++ us) b
unfolding answer
refused_first [] us a b h = let z : ◌≡◌ {A = ℕ} 0 1 = cc in absurd (omega arith)
refused_first {A} {B} {n} {i} (t ∷ ts) us a b h = go t.fails h (refused_first ts us a b)
  where
    go : (f : Bool) → refused n i ≡ cond f (refused t.number t.place) (answer ts a)
        → (refused n i ≡ answer ts a → refused n i ≡ answer (ts ++ us) b)
        → refused n i ≡ cond f (refused t.number t.place) (answer (ts ++ us) b)
    go true e ih = cc
    go false e ih = ih e

pub refused_alike : {A B : Type 0} {n i : ℕ} (ts : List Test) (a : A) (b : B) → refused n i ≡ answer ts a → refused n i ≡ answer ts b
refused_alike ts a b h = refused_first ts [] a b h ∙ ap (λ l. answer l b) (append-nil ts)
