-- Two assignments that make the tree true, one with x = 0 and one with x = 1, that agree outside the block: the variables of the block
-- that don't depend on x can be taken from one of them, whichever has the lower value of the relevant subtree.
-- Assumes nothing.
use mathlib.Core.Path.{◌≡◌, refl, sym, ◌∙◌, ap, fun_ext}
use mathlib.Core.Bool.{Bool, true, false, not, ◌&&◌, cond, true≢false}
use Prim.Native.Nat.{ℕ}
use lib.Dec.{eqb}
use borrow.Author.Tests.{not-true}
use Rattle.formula.specs.Tree.{Tree, Prefix, Literals, of, has, binds}
use Rattle.formula.specs.Truth.{Assignment, put, eval, Leads}
use Rattle.formula.specs.Outer.{within, chosen_by}
use Rattle.formula.proofs.Booleans.{false_leads, and_parts, or_parts, by_cases}
use Rattle.formula.proofs.Evaluation.{eval_same}
use Rattle.formula.proofs.Outer.Part.{part_value, rises, part_same}
use Rattle.formula.proofs.Outer.Apart.{members, within-member}
use Rattle.formula.proofs.Outer.Witness.{Agree}

-- x = b, the depending variables as in d, all others as in e
abbrev pub mixed : ℕ → (ℕ → Bool) → Assignment → Assignment → Bool → Assignment
mixed x D e d b v = cond (eqb v x) b (cond (D v) (d v) (e v))

module _ (t : Tree) (B : Prefix) (x : ℕ) (D : ℕ → Bool)
    (free : (z : ℕ) → binds B z ≡ true → D z ≡ false → has (chosen_by x D) t ≡ true → within (chosen_by x D) (of z) t ≡ false) where
  abbrev L : Literals
  L = chosen_by x D

  -- the block's other variables
  rest : ℕ → Bool
  rest v = binds B v && not (D v)

  rest_apart : has L t ≡ true → within L (members rest) t ≡ false
  unfolding rest
  rest_apart h = by (within L (members rest) t) refl
    where
      by : (b : Bool) → within L (members rest) t ≡ b → b ≡ false
      by true e =
          let y = within-member L rest t e in
          let parts = and_parts (binds B y.0) (not (D y.0)) y.1 in
          absurd (true≢false (sym y.2 ∙ free y.0 parts.0 (not-true (D y.0) parts.1) h))
      by false e = refl

  -- outside the chosen literals it is the first assignment
  like_first : (e d : Assignment) (a b : Bool) (s : Bool) (v : ℕ) → L s v ≡ false → put e x a v ≡ mixed x D e d b v
  like_first e d a b s v h =
      let parts = or_parts (eqb v x) (D v) h in
      ap (λ (m : Bool). cond m a (e v)) parts.0 ∙
      sym (ap (λ (m : Bool). cond m b (cond (D v) (d v) (e v))) parts.0 ∙ ap (λ (m : Bool). cond m (d v) (e v)) parts.1)

  -- outside the block's other variables it is the second
  like_second : (e d : Assignment) (b : Bool) → Agree B e d → (s : Bool) (v : ℕ) → members rest s v ≡ false
      → mixed x D e d b v ≡ put d x b v
  unfolding rest
  like_second e d b g s v h = ap (cond (eqb v x) b) (by (D v) (binds B v) refl h)
    where
      by : (m n : Bool) → binds B v ≡ n → (n && not m) ≡ false → cond m (d v) (e v) ≡ d v
      by true n k l = refl
      by false true k l = absurd (true≢false l)
      by false false k l = g v k

  mix : (e d : Assignment) (a b : Bool) → Agree B e d → Leads (part_value L t (put e x a)) (part_value L t (put d x b))
      → eval t (put e x a) ≡ true → eval t (mixed x D e d b) ≡ true
  mix e d a b g lead h = by (has L t) refl
    where
      by : (m : Bool) → has L t ≡ m → eval t (mixed x D e d b) ≡ true
      by false k = sym (eval_same L (put e x a) (mixed x D e d b) (like_first e d a b) t k) ∙ h
      by true k =
          rises L (put e x a) (mixed x D e d b) (like_first e d a b) t
          (λ l. part_same L (members rest) (mixed x D e d b) (put d x b) (like_second e d b g) t (rest_apart k) ∙ lead l) h

  own : (e : Assignment) (b : Bool) → eval t (put e x b) ≡ true → eval t (mixed x D e e b) ≡ true
  own e b h = ap (eval t) (fun_ext (λ v. ap (cond (eqb v x) b) (same (D v) (e v)))) ∙ h
    where
      same : (m c : Bool) → cond m c c ≡ c
      same true c = refl
      same false c = refl

  pub choose : (e d : Assignment) → Agree B e d → eval t (put e x false) ≡ true → eval t (put d x true) ≡ true
      → (c : Assignment) × Agree B c d × (eval t (mixed x D c e false) ≡ true) × (eval t (mixed x D c d true) ≡ true)
  choose e d g h k =
      by_cases (part_value L t (put e x false))
      (λ l. (d, (λ v n. refl), mix d e true false (λ v n. sym (g v n)) (λ _. l) k, own d true k))
      (λ l. (e, g, own e false h, mix e d false true g (false_leads l) h))
