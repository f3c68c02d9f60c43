-- The guards that clash (N10): the children of a root AND that are kept when each in turn is left out if the rest is still false.
-- Assumes nothing.
use Rattle.std.specs.Prelude.{Bool, true, false, ℕ, zero, suc, ◌≤◌, ◌<◌, ◌≡◌}
use Rattle.formula.specs.Tree.{and, or, Tree, lit, node, Forest, ∅, ◌▸◌, ◌⧺◌, Prefix, Formula, Literals, rows_all, has_any, count}
use Rattle.formula.specs.Solve.{State, End, ended, stopped, Fits, solve}
use Rattle.formula.specs.Truth.{Assignment, eval_all, truth, Leads}

unfoldable pub is_and : Tree → Bool
is_and (lit s v) = false
is_and (node and ts) = true
is_and (node or ts) = false

-- the root's children
unfoldable pub guards : Tree → Forest
guards (lit s v) = ∅
guards (node o ts) = ts

-- AND of guards under a prefix
abbrev pub conjoined : Prefix → Forest → Formula
conjoined p ts = record { prefix = p; matrix = node and ts }

-- the guards kept, and how many of them because their run stopped
pub record Kept : Type 0 where
  pub those : Forest
  pub stops : ℕ

-- "leave one out for good if Solve still says false. A child whose run stops is kept and counted"
unfoldable pub judged : End → Kept → Kept → Kept
judged (ended false) without with = without
judged (ended true) without with = with
judged (stopped x) without with = record { those = with.those; stops = suc with.stops }

-- from first to last: each child is left out of those kept before it and those not yet tried
unfoldable pub sift : (Forest → End) → Forest → Forest → Kept
sift says kept ∅ = record { those = kept; stops = 0 }
sift says kept (t ▸ rest) = judged (says (kept ⧺ rest)) (sift says kept rest) (sift says (kept ⧺ (t ▸ ∅)) rest)

-- how the run on these guards ends
unfoldable pub says : Fits → Prefix → Forest → End
says fits p ts = (solve fits (conjoined p ts)).end

unfoldable pub clashing : Fits → Formula → Kept
clashing fits f = sift (says fits f.prefix) ∅ (guards f.matrix)

-- "An initial run that stops or says true is itself the answer"; after one that says false, the sheet of the kept children with the old
-- prefix, and the count
pub data Guarded : Type 0 where
  holds : State → Guarded
  stuck : ℕ → State → Guarded
  clash : Formula → ℕ → Guarded

unfoldable pub after_run : End → State → Prefix → Kept → Guarded
after_run (ended true) s p k = holds s
after_run (stopped x) s p k = stuck x s
after_run (ended false) s p k = clash (conjoined p k.those) k.stops

unfoldable pub guarded : Fits → Formula → Guarded
guarded fits f =
    let r = solve fits f in
    after_run r.end r.state f.prefix (clashing fits f)

-- a formula with child i of its root removed
unfoldable pub removed : ℕ → Forest → Forest
removed i ∅ = ∅
removed zero (t ▸ ts) = ts
removed (suc i) (t ▸ ts) = t ▸ removed i ts

abbrev pub weakened : ℕ → Formula → Formula
weakened i f = conjoined f.prefix (removed i (guards f.matrix))

-- us are some of the guards ts, in rows, truth and literals: no more rows, true wherever all of ts are, and no literal that ts don't have
pub record Fewer (us ts : Forest) : Type 0 where
  pub no_more_rows : rows_all us ≤ rows_all ts
  pub still_true : (ρ : Assignment) → Leads (eval_all ts and ρ) (eval_all us and ρ)
  pub still_none : (L : Literals) → has_any L ts ≡ false → has_any L us ≡ false

-- What Guards finds in a formula: a formula of some of its guards, which is false; where no run stopped, each of them is needed.
pub record Blamed (f g : Formula) (stops : ℕ) : Type 0 where
  pub is_conjunction : g ≡ conjoined f.prefix (guards g.matrix)
  pub some_guards : Fewer (guards g.matrix) (guards f.matrix)
  pub is_false : truth g ≡ false
  pub each_needed : stops ≡ 0 → (i : ℕ) → i < count (guards g.matrix) → truth (weakened i g) ≡ true
