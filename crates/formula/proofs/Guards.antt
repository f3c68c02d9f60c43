-- The guards kept: AND of them is false, and where no run stopped, AND of all but any one of them is true (N10).
-- Assumes nothing.
use mathlib.Core.Path.{◌≡◌, refl, sym, ◌∙◌, ap, subst}
use mathlib.Core.Bool.{Bool, true, false, not, false≢true}
use mathlib.Core.Logic.{◌⊎◌, inl, inr}
use Prim.Native.Nat.{ℕ, zero, suc, ◌≤◌, ◌<◌}
use native.Mathlib.Omega.{arith}
use borrow.Author.Tests.{not-true}
use Rattle.formula.specs.Tree.{and, or, Tree, lit, node, Forest, ∅, ◌▸◌, ◌⧺◌, Prefix, Formula, rows, rows_all, has, has_any, count, distinct, closed}
use Rattle.formula.specs.Truth.{eval, eval_all, truth, Leads}
use Rattle.formula.specs.Solve.{End, ended, stopped, Fits, solve}
use Rattle.formula.specs.Guards.{is_and, guards, conjoined, Kept, judged, sift, says, clashing, clash, after_run, guarded, removed}
use Rattle.formula.proofs.Booleans.{join-leads, and_parts, or_parts}
use Rattle.formula.proofs.Binding.{bind-leads}
use Rattle.formula.proofs.Closed.{unbound}
use Rattle.formula.proofs.Forests.{⧺-assoc, ⧺-none, count-rows}
use Rattle.formula.proofs.Solve.{solve_right}
use Rattle.formula.specs.Guards.{Fewer, Blamed}

-- fewer conjuncts are weaker

pub fewer_none : (ts : Forest) → Fewer ts ts
fewer_none ts = record { no_more_rows = omega arith; still_true = λ ρ h. h; still_none = λ L h. h }

pub fewer_again : {us ts ws : Forest} → Fewer us ts → Fewer ts ws → Fewer us ws
fewer_again f g =
    record {
      no_more_rows = omega (arith, f.no_more_rows, g.no_more_rows);
      still_true = λ ρ h. f.still_true ρ (g.still_true ρ h);
      still_none = λ L h. f.still_none L (g.still_none L h);
    }

fewer_first : (t : Tree) (ts : Forest) → Fewer ts (t ▸ ts)
unfolding rows_all eval_all has_any
fewer_first t ts =
    record {
      no_more_rows = omega arith;
      still_true = λ ρ h. (and_parts (eval t ρ) (eval_all ts and ρ) h).1;
      still_none = λ L h. (or_parts (has L t) (has_any L ts) h).1;
    }

fewer_below : (t : Tree) {us ts : Forest} → Fewer us ts → Fewer (t ▸ us) (t ▸ ts)
unfolding rows_all eval_all has_any
fewer_below t {us} {ts} f =
    record {
      no_more_rows = omega (arith, f.no_more_rows);
      still_true = λ ρ. join-leads and (eval t ρ) (eval t ρ) (eval_all ts and ρ) (eval_all us and ρ) (λ h. h) (f.still_true ρ);
      still_none = λ L h. let parts = or_parts (has L t) (has_any L ts) h in rw (parts.0, f.still_none L parts.1);
    }

fewer_behind : (kept : Forest) {us ts : Forest} → Fewer us ts → Fewer (kept ⧺ us) (kept ⧺ ts)
unfolding ◌⧺◌
fewer_behind ∅ f = f
fewer_behind (t ▸ kept) f = fewer_below t (fewer_behind kept f)

pub one_fewer : (kept : Forest) (t : Tree) (rest : Forest) → Fewer (kept ⧺ rest) (kept ⧺ (t ▸ rest))
one_fewer kept t rest = fewer_behind kept (fewer_first t rest)

pub truth_fewer : (p : Prefix) {us ts : Forest} → Fewer us ts → Leads (truth (conjoined p ts)) (truth (conjoined p us))
unfolding truth eval
truth_fewer p {us} {ts} f = bind-leads p (eval (node and ts)) (eval (node and us)) f.still_true (λ _. false)

pub closed_fewer : (p : Prefix) {us ts : Forest} → Fewer us ts → closed (conjoined p ts) ≡ true → closed (conjoined p us) ≡ true
unfolding closed has
closed_fewer p {us} {ts} f h = ap not (f.still_none (unbound p) (not-true (has_any (unbound p) ts) h))

-- the child tried is the next one
pub next-tried : (kept : Forest) (t : Tree) (rest : Forest) → (kept ⧺ (t ▸ ∅)) ⧺ rest ≡ kept ⧺ (t ▸ rest)
unfolding ◌⧺◌
next-tried kept t rest = ⧺-assoc kept (t ▸ ∅) rest

-- of these and one more, either that one is removed or one of these
removed-last : (kept : Forest) (t : Tree) (i : ℕ) → i < count (kept ⧺ (t ▸ ∅))
    → ((i < count kept) × (removed i (kept ⧺ (t ▸ ∅)) ≡ removed i kept ⧺ (t ▸ ∅))) ⊎ (removed i (kept ⧺ (t ▸ ∅)) ≡ kept)
unfolding ◌⧺◌ count removed
removed-last ∅ t zero h = inr refl
removed-last ∅ t (suc i) h = absurd (omega arith)
removed-last (u ▸ kept) t zero h = inl (omega arith, refl)
removed-last (u ▸ kept) t (suc i) h = on (removed-last kept t i (omega arith))
  where
    on : ((i < count kept) × (removed i (kept ⧺ (t ▸ ∅)) ≡ removed i kept ⧺ (t ▸ ∅))) ⊎ (removed i (kept ⧺ (t ▸ ∅)) ≡ kept)
        → ((suc i < suc (count kept)) × ((u ▸ removed i (kept ⧺ (t ▸ ∅))) ≡ (u ▸ (removed i kept ⧺ (t ▸ ∅))))) ⊎ ((u ▸ removed i (kept ⧺ (t ▸ ∅))) ≡ (u ▸ kept))
    on (inl e) = inl (omega (arith, e.0), ap (λ (ts : Forest). u ▸ ts) e.1)
    on (inr e) = inr (ap (λ (ts : Forest). u ▸ ts) e)

module _ (fits : Fits) (p : Prefix) (d : distinct p ≡ true) where
  abbrev T : Forest → Bool
  T ts = truth (conjoined p ts)

  -- without any one of those kept, the others and those not yet tried are true
  abbrev Needed : Forest → Forest → Type 0
  Needed kept rest = (i : ℕ) → i < count kept → T (removed i kept ⧺ rest) ≡ true

  said : (ts : Forest) → closed (conjoined p ts) ≡ true → (v : Bool) → says fits p ts ≡ ended v → T ts ≡ v
  unfolding says
  said ts c v e = sym ((solve_right fits (conjoined p ts) d c).on_ended v e)

  pub record Sifted (kept rest : Forest) (k : Kept) : Type 0 where
    pub fewer : Fewer k.those (kept ⧺ rest)
    pub is_false : T (kept ⧺ rest) ≡ false → T k.those ≡ false
    pub each_needed : k.stops ≡ 0 → Needed kept rest → Needed k.those ∅

  left_out : (kept : Forest) (t : Tree) (rest : Forest) {k : Kept} → T (kept ⧺ rest) ≡ false → Sifted kept rest k → Sifted kept (t ▸ rest) k
  left_out kept t rest e s =
      record {
        fewer = fewer_again s.fewer (one_fewer kept t rest);
        is_false = λ _. s.is_false e;
        each_needed = λ z n. s.each_needed z (λ i h. truth_fewer p (one_fewer (removed i kept) t rest) (n i h));
      }

  needed_more : (kept : Forest) (t : Tree) (rest : Forest) → T (kept ⧺ rest) ≡ true → Needed kept (t ▸ rest) → Needed (kept ⧺ (t ▸ ∅)) rest
  needed_more kept t rest e n i h = by (removed-last kept t i h)
    where
      by : ((i < count kept) × (removed i (kept ⧺ (t ▸ ∅)) ≡ removed i kept ⧺ (t ▸ ∅))) ⊎ (removed i (kept ⧺ (t ▸ ∅)) ≡ kept)
          → T (removed i (kept ⧺ (t ▸ ∅)) ⧺ rest) ≡ true
      by (inl q) = ap (λ (ts : Forest). T (ts ⧺ rest)) q.1 ∙ ap T (next-tried (removed i kept) t rest) ∙ n i q.0
      by (inr q) = ap (λ (ts : Forest). T (ts ⧺ rest)) q ∙ e

  module _ (kept : Forest) (t : Tree) (rest : Forest) {k : Kept} (s : Sifted (kept ⧺ (t ▸ ∅)) rest k) where
    same : (kept ⧺ (t ▸ ∅)) ⧺ rest ≡ kept ⧺ (t ▸ rest)
    same = next-tried kept t rest

    stays : T (kept ⧺ rest) ≡ true → Sifted kept (t ▸ rest) k
    stays e =
        record {
          fewer = subst (Fewer k.those) same s.fewer;
          is_false = λ h. s.is_false (ap T same ∙ h);
          each_needed = λ z n. s.each_needed z (needed_more kept t rest e n);
        }

    stays_counted : Sifted kept (t ▸ rest) (record { those = k.those; stops = suc k.stops })
    stays_counted =
        record {
          fewer = subst (Fewer k.those) same s.fewer;
          is_false = λ h. s.is_false (ap T same ∙ h);
          each_needed = λ z. absurd (omega (arith, z));
        }

  pub sifted : (kept rest : Forest) → closed (conjoined p (kept ⧺ rest)) ≡ true → Sifted kept rest (sift (says fits p) kept rest)
  unfolding sift judged
  sifted kept ∅ c =
      record {
        fewer = subst (Fewer kept) (sym (⧺-none kept)) (fewer_none kept);
        is_false = λ h. ap T (sym (⧺-none kept)) ∙ h;
        each_needed = λ z n. n;
      }
  sifted kept (t ▸ rest) c =
      let fewer = closed_fewer p (one_fewer kept t rest) c in
      by (says fits p (kept ⧺ rest)) (said (kept ⧺ rest) fewer) (sifted kept rest fewer)
      (sifted (kept ⧺ (t ▸ ∅)) rest (ap (λ (ts : Forest). closed (conjoined p ts)) (next-tried kept t rest) ∙ c))
    where
      by : (e : End) → ((v : Bool) → e ≡ ended v → T (kept ⧺ rest) ≡ v) → Sifted kept rest (sift (says fits p) kept rest)
          → Sifted (kept ⧺ (t ▸ ∅)) rest (sift (says fits p) (kept ⧺ (t ▸ ∅)) rest)
          → Sifted kept (t ▸ rest) (judged e (sift (says fits p) kept rest) (sift (says fits p) (kept ⧺ (t ▸ ∅)) rest))
      by (ended false) v without with = left_out kept t rest (v false refl) without
      by (ended true) v without with = stays kept t rest with (v true refl)
      by (stopped x) v without with = stays_counted kept t rest with

-- a root that is AND
pub and_matrix : (t : Tree) → is_and t ≡ true → t ≡ node and (guards t)
unfolding is_and guards
and_matrix (lit s v) h = absurd (false≢true h)
and_matrix (node and ts) h = refl
and_matrix (node or ts) h = absurd (false≢true h)

pub and-formula : (f : Formula) → is_and f.matrix ≡ true → f ≡ conjoined f.prefix (guards f.matrix)
and-formula f h = ap (λ (t : Tree). record { prefix = f.prefix; matrix = t }) (and_matrix f.matrix h)

pub guarded_right : (fits : Fits) (f : Formula) → distinct f.prefix ≡ true → closed f ≡ true → is_and f.matrix ≡ true
    → (g : Formula) (n : ℕ) → guarded fits f ≡ clash g n → Blamed f g n
unfolding guarded clashing after_run is_and guards ◌⧺◌ count
guarded_right fits f d c a g n h =
    by (solve fits f).end (λ v e. (solve_right fits f d c).on_ended v e) h
  where
    p : Prefix
    p = f.prefix

    ts : Forest
    ts = guards f.matrix

    whole : f ≡ conjoined p ts
    whole = and-formula f a

    k : Kept
    k = sift (says fits p) ∅ ts

    all : Sifted fits p d ∅ ts k
    all = sifted fits p d ∅ ts (ap closed (sym whole) ∙ c)

    found : truth f ≡ false → Blamed f (conjoined p k.those) k.stops
    found e =
        record {
          is_conjunction = refl;
          some_guards = all.fewer;
          is_false = all.is_false (ap truth (sym whole) ∙ e);
          each_needed = λ z i l. ap (λ (us : Forest). truth (conjoined p us)) (sym (⧺-none (removed i k.those))) ∙ all.each_needed z (λ j q. absurd (omega arith)) i l;
        }

    by : (e : End) → ((v : Bool) → e ≡ ended v → v ≡ truth f) → after_run e (solve fits f).state p k ≡ clash g n → Blamed f g n
    by (ended true) v q = let z : ◌≡◌ {A = ℕ} 0 1 = cc in absurd (omega arith)
    by (stopped x) v q = let z : ◌≡◌ {A = ℕ} 0 1 = cc in absurd (omega arith)
    by (ended false) v q =
        let same : conjoined p k.those ≡ g = cc in
        let counted : k.stops ≡ n = cc in
        subst (λ (m : ℕ). Blamed f g m) counted (subst (λ (h : Formula). Blamed f h k.stops) same (found (sym (v false refl))))

-- no more runs stop than there are guards

stops_most : (says : Forest → End) (kept ts : Forest) → (sift says kept ts).stops ≤ count ts
unfolding sift judged count
stops_most says kept ∅ = omega arith
stops_most says kept (t ▸ rest) =
    by (says (kept ⧺ rest)) (sift says kept rest) (sift says (kept ⧺ (t ▸ ∅)) rest) (stops_most says kept rest) (stops_most says (kept ⧺ (t ▸ ∅)) rest)
  where
    by : (e : End) (without with : Kept) → without.stops ≤ count rest → with.stops ≤ count rest → (judged e without with).stops ≤ suc (count rest)
    by (ended false) without with l m = omega arith
    by (ended true) without with l m = omega arith
    by (stopped x) without with l m = omega arith

guards_most : (t : Tree) → count (guards t) ≤ rows t
unfolding guards rows count
guards_most (lit s v) = omega arith
guards_most (node o ts) = omega (arith, count-rows ts)

pub clashing_most : (fits : Fits) (f : Formula) → (clashing fits f).stops ≤ rows f.matrix
unfolding clashing
clashing_most fits f =
    omega (arith, stops_most (says fits f.prefix) ∅ (guards f.matrix), guards_most f.matrix)
