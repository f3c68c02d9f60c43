-- write_sheet: the parts make up all rows.
-- Assumes nothing.
use mathlib.Core.Path.{◌≡◌, refl, sym, ap, ap₂, ◌∙◌}
use mathlib.Core.Bool.{Bool, true}
use mathlib.Core.List.{List, [], ◌∷◌, ◌++◌, append_assoc}
use Prim.Native.Nat.{ℕ, zero, suc, ◌+◌, ◌≤◌, ◌<◌}
use native.Mathlib.Numerals.{add-one}
use native.Mathlib.Omega.{arith}
use lib.ListN.{length, take, drop, set, length-append}
use lib.Seq.{take_at, drop-append-add, set_split}
use Rattle.formula.proofs.Booleans.{and_parts}
use Rattle.sheet.specs.Format.{Row}
use Rattle.sheet.specs.Qdimacs.{all, Token, opener, plain, minus, other}
use Rattle.qdimacs.specs.Inner.Lists.{State, between, within, clause_tokens, ends}
use Rattle.qdimacs.specs.Inner.Rows.{spliced}

behind : (rs d rest : List Row) (n : ℕ) (new : List Row) → rs ≡ d ++ rest → n ≡ length d → spliced rs n new ≡ (d ++ new) ++ drop (length new) rest
behind rs d rest n new e f =
    ap₂ (λ l k. spliced l k new) e f ∙
    ap₂ (λ a b. a ++ (new ++ b)) (take_at d rest (length d) refl) (drop-append-add d rest (length new)) ∙ sym (append_assoc d new (drop (length new) rest))

pub composed : (rs₀ rs₁ rs₂ rs₃ rs₄ a b c : List Row) (x : Row) (v₁ v₂ all_rows : ℕ) → rs₁ ≡ spliced rs₀ 0 a → v₁ ≡ length a → rs₂ ≡ spliced rs₁ v₁ b → v₂ ≡ v₁ + length b
    → v₂ < length rs₂ → rs₃ ≡ set rs₂ v₂ x → rs₄ ≡ spliced rs₃ (v₂ + 1) c → all_rows ≡ v₂ + 1 + length c → take all_rows rs₄ ≡ a ++ (b ++ (x ∷ c))
composed rs₀ rs₁ rs₂ rs₃ rs₄ a b c x v₁ v₂ all_rows e₁ f₁ e₂ f₂ l e₃ e₄ g =
    ap (take all_rows) fourth ∙ take_at (((a ++ b) ++ (x ∷ [])) ++ c) (drop (length c) rest₃) all_rows (long ∙ sym g) ∙
    append_assoc (a ++ b) (x ∷ []) c ∙ append_assoc a b (x ∷ c)
  where
    rest₁ : List Row
    rest₁ = drop (0 + length a) rs₀

    rest₂ : List Row
    rest₂ = drop (length b) rest₁

    rest₃ : List Row
    rest₃ = drop (length (x ∷ [])) rest₂

    second : rs₂ ≡ (a ++ b) ++ rest₂
    second = e₂ ∙ behind rs₁ a rest₁ v₁ b e₁ f₁

    at-two : v₂ ≡ length (a ++ b)
    at-two = omega (arith, f₁, f₂, length-append a b)

    third : rs₃ ≡ ((a ++ b) ++ (x ∷ [])) ++ rest₃
    third = e₃ ∙ set_split rs₂ v₂ x l ∙ ap (λ k. take v₂ rs₂ ++ (x ∷ drop k rs₂)) (sym (add-one v₂)) ∙ behind rs₂ (a ++ b) rest₂ v₂ (x ∷ []) second at-two

    at-three : v₂ + 1 ≡ length ((a ++ b) ++ (x ∷ []))
    at-three = omega (arith, at-two, length-append (a ++ b) (x ∷ []))

    fourth : rs₄ ≡ (((a ++ b) ++ (x ∷ [])) ++ c) ++ drop (length c) rest₃
    fourth = e₄ ∙ behind rs₃ ((a ++ b) ++ (x ∷ [])) rest₃ (v₂ + 1) c third at-three

    long : length (((a ++ b) ++ (x ∷ [])) ++ c) ≡ v₂ + 1 + length c
    long = omega (arith, length-append ((a ++ b) ++ (x ∷ [])) c, at-three)

-- clauses are among all words
pub clauses-all : (p : Token → Bool) (s : State) (ts : List Token) → all p ts ≡ true → all p (clause_tokens s ts) ≡ true
unfolding all clause_tokens
clauses-all p s [] h = refl
clauses-all p between (opener q ∷ ts) h = clauses-all p (within q) ts (and_parts (p (opener q)) (all p ts) h).1
clauses-all p between (plain n ∷ ts) h = h
clauses-all p between (minus n ∷ ts) h = h
clauses-all p between (other ∷ ts) h = h
clauses-all p (within q) (opener r ∷ ts) h = refl
clauses-all p (within q) (plain zero ∷ ts) h = clauses-all p between ts (and_parts (p (plain zero)) (all p ts) h).1
clauses-all p (within q) (plain (suc n) ∷ ts) h = clauses-all p (within q) ts (and_parts (p (plain (suc n))) (all p ts) h).1
clauses-all p (within q) (minus n ∷ ts) h = refl
clauses-all p (within q) (other ∷ ts) h = refl

pub ends_few : (ts : List Token) → ends ts ≤ length ts
unfolding ends
ends_few [] = omega arith
ends_few (opener q ∷ ts) = let h = ends_few ts in omega arith
ends_few (plain zero ∷ ts) = let h = ends_few ts in omega arith
ends_few (plain (suc n) ∷ ts) = let h = ends_few ts in omega arith
ends_few (minus n ∷ ts) = let h = ends_few ts in omega arith
ends_few (other ∷ ts) = let h = ends_few ts in omega arith
