-- Force: what stands under the values given is proper, and an answer says exactly which values win; with no value given it is the
-- verdict itself.
-- Assumes nothing.
use mathlib.Core.Path.{◌≡◌, refl, sym, ◌∙◌, ap, ap₂}
use mathlib.Core.Bool.{Bool, true, false, not, ◌||◌, cond, beq, true≢false}
use mathlib.Core.List.{List, [], ◌∷◌, ◌++◌}
use Prim.Native.Nat.{ℕ, ◌<◌}
use native.Mathlib.Omega.{arith}
use lib.ListN.{length, drop}
use borrow.Author.Tests.{eq-eqb}
use Rattle.formula.specs.Tree.{Quantifier, and, or, exists, for_all, Tree, Binding, Prefix, Formula, without, distinct, closed, rows, assign}
use Rattle.formula.specs.Truth.{join, truth}
use Rattle.formula.specs.Solve.{End, ended, stopped, Fits}
use Rattle.formula.specs.Force.{given_by, tried, owner, turn_after, wanted, Forced, neither, with-0, with-1, both, stopped_at, which}
use Rattle.formula.specs.Force.{forced_by, judged, forced, allows, allows_some, Told, is_won, ForceRight}
use Rattle.formula.proofs.Evaluation.{rows-assign}
use Rattle.formula.proofs.Splitting.{truth_splits}
use Rattle.formula.proofs.Closed.{closed-assigned}
use Rattle.formula.proofs.Solve.{solve_right}
use Rattle.formula.proofs.Prefixes.{distinct_parts}

-- given

pub prefix_given : (bs : List Bool) (p : Prefix) (t : Tree) → (given_by bs p t).prefix ≡ drop (length bs) p
unfolding given_by
prefix_given [] p t = refl
prefix_given (b ∷ bs) [] t = refl
prefix_given (b ∷ bs) (z ∷ p) t = prefix_given bs p (assign z.variable b t)

pub rows-given : (bs : List Bool) (p : Prefix) (t : Tree) → rows (given_by bs p t).matrix ≡ rows t
unfolding given_by
rows-given [] p t = refl
rows-given (b ∷ bs) [] t = refl
rows-given (b ∷ bs) (z ∷ p) t = rows-given bs p (assign z.variable b t) ∙ rows-assign z.variable b t

without_first : (z : Binding) (p : Prefix) → without z.variable (z ∷ p) ≡ p
unfolding without
without_first z p = rw (eq-eqb z.variable z.variable refl)

pub distinct-given : (bs : List Bool) (p : Prefix) (t : Tree) → distinct p ≡ true → distinct (given_by bs p t).prefix ≡ true
unfolding given_by
distinct-given [] p t d = d
distinct-given (b ∷ bs) [] t d = d
distinct-given (b ∷ bs) (z ∷ p) t d = distinct-given bs p (assign z.variable b t) (distinct_parts z p d).1

pub closed-given : (bs : List Bool) (p : Prefix) (t : Tree) → closed (record { prefix = p; matrix = t }) ≡ true
    → closed (given_by bs p t) ≡ true
unfolding given_by
closed-given [] p t c = c
closed-given (b ∷ bs) [] t c = c
closed-given (b ∷ bs) (z ∷ p) t c = closed-given bs p (assign z.variable b t) first
  where
    first : closed (record { prefix = p; matrix = assign z.variable b t }) ≡ true
    first =
        ap (λ (q : Prefix). closed (record { prefix = q; matrix = assign z.variable b t })) (sym (without_first z p)) ∙
        closed-assigned z.variable b (record { prefix = z ∷ p; matrix = t }) c

-- the next row splits what the values given leave
pub truth-given : (bs : List Bool) (p : Prefix) (t : Tree) → distinct p ≡ true → length bs < length p
    → truth (given_by bs p t) ≡
    join (owner (given_by bs p t).prefix) (truth (given_by (bs ++ (false ∷ [])) p t)) (truth (given_by (bs ++ (true ∷ [])) p t))
unfolding given_by owner
truth-given [] [] t d h = absurd (omega arith)
truth-given [] (z ∷ p) t d h = truth_splits z p t (distinct_parts z p d).0
truth-given (b ∷ bs) [] t d h = absurd (omega arith)
truth-given (b ∷ bs) (z ∷ p) t d h = truth-given bs p (assign z.variable b t) (distinct_parts z p d).1 (omega arith)

-- the two sides

allows-which : (a c b : Bool) → allows b (which a c) ≡ cond b c a
unfolding allows
allows-which false false false = refl
allows-which false false true = refl
allows-which true false false = refl
allows-which true false true = refl
allows-which false true false = refl
allows-which false true true = refl
allows-which true true false = refl
allows-which true true true = refl

some_which : (a c : Bool) → allows_some (which a c) ≡ (a || c)
unfolding allows_some
some_which false false = refl
some_which true false = refl
some_which false true = refl
some_which true true = refl

-- the owner of a row wins exactly with one of its values
wins_join : (q : Quantifier) (a c : Bool) → (beq (wanted q) a || beq (wanted q) c) ≡ beq (wanted q) (join q a c)
wins_join or true c = refl
wins_join or false c = refl
wins_join and true c = refl
wins_join and false c = refl

-- which stop is named

module _ (fits : Fits) (bs : List Bool) (f : Formula) where
  -- value 0's, whatever 1 would say
  pub first_stop : {x : ℕ} → (judged fits bs false f).end ≡ stopped x → forced fits bs f ≡ stopped_at x
  unfolding forced forced_by
  first_stop e = ap (λ (n : End). forced_by (wanted (turn_after bs f)) n (judged fits bs true f).end) e

  -- value 1's, if 0's run ended
  pub second_stop : {v : Bool} {x : ℕ} → (judged fits bs false f).end ≡ ended v → (judged fits bs true f).end ≡ stopped x
      → forced fits bs f ≡ stopped_at x
  unfolding forced forced_by
  second_stop e₀ e₁ = ap₂ (λ (n m : End). forced_by (wanted (turn_after bs f)) n m) e₀ e₁

-- no run stops

module _ (fits : Fits) (bs : List Bool) (f : Formula) (d : distinct f.prefix ≡ true) (c : closed f ≡ true) where
  -- a verdict on a value is the truth of the formula so reduced
  pub judged-truth : (b v : Bool) → (judged fits bs b f).end ≡ ended v → v ≡ truth (tried bs b f)
  judged-truth b v h =
      (solve_right fits (tried bs b f) (distinct-given (bs ++ (b ∷ [])) f.prefix f.matrix d)
      (closed-given (bs ++ (b ∷ [])) f.prefix f.matrix c)).on_ended v h

  wins : Bool → Bool
  wins b = is_won bs f (tried bs b f)

  told_which : Told (forced fits bs f) → forced fits bs f ≡ which (wins false) (wins true)
  unfolding forced forced_by wins
  told_which told = by (judged fits bs false f).end (judged fits bs true f).end refl refl told
    where
      w : Bool
      w = wanted (turn_after bs f)

      by : (e₀ e₁ : End) → (judged fits bs false f).end ≡ e₀ → (judged fits bs true f).end ≡ e₁ → Told (forced_by w e₀ e₁)
          → forced_by w e₀ e₁ ≡ which (wins false) (wins true)
      by (stopped x) e₁ k₀ k₁ t = absurd (t x refl)
      by (ended v₀) (stopped x) k₀ k₁ t = absurd (t x refl)
      by (ended v₀) (ended v₁) k₀ k₁ t =
          ap₂ (λ (a b : Bool). which (beq w a) (beq w b)) (judged-truth false v₀ k₀) (judged-truth true v₁ k₁)

  pub forced_right : length bs < length f.prefix → Told (forced fits bs f) → ForceRight bs f (forced fits bs f)
  unfolding wins
  forced_right short told =
      record {
        exactly = λ b. ap (allows b) (told_which told) ∙ allows-which (wins false) (wins true) b ∙ side b;
        some_value =
            ap allows_some (told_which told) ∙ some_which (wins false) (wins true) ∙ wins_join (turn_after bs f) _ _ ∙
            ap (beq (wanted (turn_after bs f))) (sym (truth-given bs f.prefix f.matrix d short));
      }
    where
      side : (b : Bool) → cond b (wins true) (wins false) ≡ wins b
      side true = refl
      side false = refl

-- "neither" is the answer that allows no value
pub neither_none : (a : Forced) → Told a → allows_some a ≡ false → a ≡ neither
unfolding allows_some
neither_none neither told h = refl
neither_none with-0 told h = absurd (true≢false h)
neither_none with-1 told h = absurd (true≢false h)
neither_none both told h = absurd (true≢false h)
neither_none (stopped_at x) told h = absurd (told x refl)

pub neither_allows : (a : Forced) → a ≡ neither → allows_some a ≡ false
unfolding allows_some
neither_allows a e = ap allows_some e

-- no value given: the answer is the verdict, for exists as it is and for all turned round
module _ (f : Formula) (a : Forced) (told : Told a) (r : ForceRight [] f a) where
  pub exists-verdict : owner f.prefix ≡ exists → allows_some a ≡ truth f
  unfolding given_by
  exists-verdict e = r.some_value ∙ ap (λ (q : Quantifier). beq (wanted q) (truth f)) e ∙ same (truth f)
    where
      same : (v : Bool) → beq true v ≡ v
      same true = refl
      same false = refl

  pub for_all-verdict : owner f.prefix ≡ for_all → allows_some a ≡ not (truth f)
  unfolding given_by
  for_all-verdict e = r.some_value ∙ ap (λ (q : Quantifier). beq (wanted q) (truth f)) e ∙ other (truth f)
    where
      other : (v : Bool) → beq false v ≡ not v
      other true = refl
      other false = refl
