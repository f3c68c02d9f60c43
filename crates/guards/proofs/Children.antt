-- Some of a root's children, by the rows at which they begin.
-- Assumes nothing.
use mathlib.Core.Path.{◌≡◌, sym, ap, ◌∙◌}
use mathlib.Core.List.{List, [], ◌∷◌, ◌++◌, append_assoc, append-nil}
use Prim.Native.Nat.{ℕ, ◌≤◌, ◌<◌}
use native.Mathlib.Omega.{arith}
use lib.ListN.{length, get_or}
use lib.Seq.{slice}
use Rattle.formula.specs.Tree.{Forest, rows_all, count}
use Rattle.sheet.specs.Format.{Bytes, Row}
use Rattle.sheet.specs.Sheet.{forest_rows}
use Rattle.rows.specs.Layouts.{Fits}
use Rattle.rows.specs.Formulas.{Readable}
use Rattle.rows.specs.declared.Layout.{Layout}
use Rattle.subtrees.proofs.Forest.{trees-rows}
use Rattle.guards.specs.Inner.Selections.{children_of, Placed, part_rows, guards_in, Chosen}

-- one child more
pub child_more : (N : List Row) (ends ks : List ℕ) (k : ℕ) → children_of ends (ks ++ (k ∷ [])) N ≡ children_of ends ks N ++ slice k (get_or ends k 0) N
unfolding children_of
child_more N ends [] k = append-nil (slice k (get_or ends k 0) N)
child_more N ends (x ∷ ks) k =
    ap (λ l. slice x (get_or ends x 0) N ++ l) (child_more N ends ks k) ∙
    sym (append_assoc (slice x (get_or ends x 0) N) (children_of ends ks N) (slice k (get_or ends k 0) N))

-- Placed

pub placed_most : (ends : List ℕ) {lo : ℕ} (ks : List ℕ) (n : ℕ) → Placed ends lo ks n → lo ≤ n
placed_most ends [] n p = p
placed_most ends (k ∷ ks) n p = omega (arith, p.0, p.1, placed_most ends ks n p.2)

pub placed_to : (ends : List ℕ) (lo : ℕ) (ks : List ℕ) (m n : ℕ) → Placed ends lo ks m → m ≤ n → Placed ends lo ks n
placed_to ends lo [] m n p h = omega (arith, p)
placed_to ends lo (k ∷ ks) m n p h = (p.0, p.1, placed_to ends (get_or ends k 0) ks m n p.2 h)

pub placed_more : (ends : List ℕ) (lo : ℕ) (ks : List ℕ) (k n : ℕ) → Placed ends lo ks k → k < get_or ends k 0 → get_or ends k 0 ≤ n
    → Placed ends lo (ks ++ (k ∷ [])) n
placed_more ends lo [] k n p h l = (p, h, l)
placed_more ends lo (x ∷ ks) k n p h l = (p.0, p.1, placed_more ends (get_or ends x 0) ks k n p.2 h l)

-- rows that are those of trees are read as these trees
module _ (s : Layout) (b : Bytes) (ends ks : List ℕ) (rest : ℕ) (us : Forest) (e : part_rows s b ends ks rest ≡ forest_rows us) where
  pub guards_read : guards_in s b ends ks rest ≡ us
  guards_read = ap Rattle.sheet.specs.Sheet.trees e ∙ trees-rows us

  pub chosen : {n m : ℕ} → Readable s b → s.nodes ≤ length ends → Placed ends 0 ks rest → rest ≤ s.nodes → n ≡ count us
      → m ≡ rows_all us → m < s.nodes → Fits s n → Chosen s b ends ks (record { guards = n; rows = m; rest = rest })
  chosen ok holds placed within counted long no_more fit =
      record {
        readable = ok;
        holds = holds;
        placed = placed;
        rest_within = within;
        are = ap forest_rows guards_read ∙ sym e;
        counted = counted ∙ ap count (sym guards_read);
        long = long ∙ ap rows_all (sym guards_read);
        no_more = no_more;
        fit = fit;
      }
