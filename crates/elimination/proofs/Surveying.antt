-- Where the copies of an expansion go, from the relevant subtree of a set of literals and the chain of their rows.
-- Assumes nothing.
use mathlib.Core.Path.{◌≡◌, refl, sym, ap, ◌∙◌}
use mathlib.Core.Bool.{Bool, true, false, cond, true≢false, false≢true}
use mathlib.Core.List.{List}
use Prim.Native.Nat.{ℕ, suc, ◌+◌, ◌≤◌, ◌<◌}
use native.Mathlib.Omega.{arith}
use lib.ListN.{length, take, drop, length-append}
use lib.Seq.{take_at}
use Rattle.std.specs.Prelude.{Option, Some, None}
use Rattle.formula.specs.Tree.{Tree, Literals, rows, has}
use Rattle.formula.specs.Expand.{raw_rows}
use Rattle.sheet.specs.Format.{Bytes}
use Rattle.rows.specs.Formulas.{matrix_in, Readable}
use Rattle.rows.specs.declared.Layout.{Layout}
use Rattle.subtrees.specs.Subtrees.{kids, subtree_in}
use Rattle.subtrees.proofs.Siblings.{end_subtree}
use Rattle.occurrences.specs.Chains.{Chain}
use Rattle.subtrees.specs.Cuts.{cuts}
use Rattle.subtrees.specs.Parts.{relevant_subtree}
use Rattle.relevance.specs.Raw.{presence, grown_by, copied}
use Rattle.relevance.specs.Walks.{Sited, IsCuts}
use Rattle.subtrees.specs.declared.relevant.Relevant.{Relevant}
use Rattle.relevance.proofs.Growth.{raw_rows_by}
use Rattle.relevance.proofs.Descent.{placed, operator_before}
use Rattle.raw.specs.declared.expand.Expansion.{Expansion}
use Rattle.elimination.specs.Survey.{draft_layout, Ended, outline_by, outline_of, Drafts, Surveyed}
use Rattle.elimination.specs.declared.survey.Draft.{Draft}

-- presence

is_present : Option Relevant → Bool
is_present None = false
is_present (Some p) = true

the_part : Relevant → Option Relevant → Relevant
the_part d None = d
the_part d (Some p) = p

module _ (L : Literals) (t : Tree) where
  told_absent : None ≡ presence L t → has L t ≡ false
  unfolding presence is_present
  told_absent e = by (has L t) refl e
    where
      by : (c : Bool) → has L t ≡ c → None ≡ cond c (Some (relevant_subtree L 0 t)) None → has L t ≡ false
      by true h e = absurd (false≢true (ap is_present e))
      by false h e = h

  told_present : {p : Relevant} → Some p ≡ presence L t → (has L t ≡ true) × (p ≡ relevant_subtree L 0 t)
  unfolding presence is_present the_part
  told_present {p} e = by (has L t) refl e
    where
      by : (c : Bool) → has L t ≡ c → Some p ≡ cond c (Some (relevant_subtree L 0 t)) None
          → (has L t ≡ true) × (p ≡ relevant_subtree L 0 t)
      by true h e = (h, ap (the_part p) e)
      by false h e = absurd (true≢false (ap is_present e))

-- how many rows the raw sheet can have
grown_most : (n : ℕ) (p : Option Relevant) → grown_by n p ≤ n + copied p + 2
grown_most n None = omega arith
grown_most n (Some p) = by p.all
  where
    by : (c : Bool) → n + (p.rows + cond c 1 2) ≤ n + p.rows + 2
    by true = omega arith
    by false = omega arith

pub few_raw : (L : Literals) {s : Layout} {b : Bytes} → Readable s b → raw_rows L (matrix_in s b) ≤ 16386
few_raw L {s} {b} ok =
    let t = matrix_in s b in
    let raw = raw_rows_by L b ok {p = presence L t} refl in
    omega (arith, raw.0, raw.1, grown_most s.nodes (presence L t), ok.few_nodes)

-- an expansion short of the cuts; where some child is not relevant, a literal occurs
record Outlined (L : Literals) (s : Layout) (b : Bytes) (d : Draft) (e : Expansion) : Type 0 where
  row_is : e.row ≡ d.row
  joint_is : e.joint ≡ d.joint
  layout_is : e.layout ≡ draft_layout s d (raw_rows L (matrix_in s b))
  occurs_is : e.occurs ≡ has L (matrix_in s b)
  part_is : e.occurs ≡ true → e.relevant ≡ relevant_subtree L 0 (matrix_in s b)
  end_is : e.occurs ≡ true → e.end ≡ e.relevant.operator + rows (subtree_in s b e.relevant.operator)
  present : e.relevant.all ≡ false → e.occurs ≡ true

module _ {L : Literals} {s : Layout} {b : Bytes} {ends next : List ℕ} {d : Draft} (k : Drafts L s b ends next d) where
  abbrev t : Tree
  t = matrix_in s b

  operator_in : {p : Relevant} → Some p ≡ presence L t → p.operator < s.nodes
  operator_in e =
      let found = told_present L t e in
      let here = k.chain found.0 in
      omega (
        arith,
        ap (λ (q : Relevant). q.operator) found.1,
        (placed L b k.indexed.readable (record { first = d.first; last = k.last }) here.bounds).inside,
      )

  pub ended : Ended ends d.relevant
  ended = by d.relevant k.part_is
    where
      by : (p : Option Relevant) → p ≡ presence L t → Ended ends p
      by None e = tt
      by (Some p) e =
          (omega (arith, operator_in e, k.indexed.readable.few_nodes), omega (arith, operator_in e, k.indexed.holds))

  outlined : {e : Expansion} → e ≡ outline_of s ends d → Outlined L s b d e
  outlined is = rw is (by d.relevant k.part_is)
    where
      by : (p : Option Relevant) → p ≡ presence L t → Outlined L s b d (outline_by s ends d p)
      by None e =
          record {
            row_is = refl;
            joint_is = refl;
            layout_is = ap (draft_layout s d) k.raw_is;
            occurs_is = sym (told_absent L t e);
            part_is = λ h. absurd (false≢true h);
            end_is = λ h. absurd (false≢true h);
            present = λ h. absurd (true≢false h);
          }
      by (Some p) e =
          record {
            row_is = refl;
            joint_is = refl;
            layout_is = ap (draft_layout s d) k.raw_is;
            occurs_is = sym (told_present L t e).0;
            part_is = λ h. (told_present L t e).1;
            end_is = λ h. end_subtree b k.indexed.readable ends k.indexed p.operator (operator_in e);
            present = λ h. refl;
          }

  module _ {e : Expansion} (is : e ≡ outline_of s ends d) where
    o : Outlined L s b d e
    o = outlined is

    pub surveyed-whole : {table : List ℕ} → e.relevant.all ≡ true → Surveyed L s b d table (record { cuts = 0; to = e })
    surveyed-whole all =
        record {
          row_is = o.row_is;
          joint_is = o.joint_is;
          layout_is = o.layout_is;
          occurs_is = o.occurs_is;
          few_cuts = omega arith;
          found =
              λ h. record {
                part_is = o.part_is h;
                end_is = o.end_is h;
                cuts_are = λ some. absurd (true≢false (sym all ∙ some));
              };
        }

    module _ (some : e.relevant.all ≡ false) where
      here : Chain L s b next d.first k.last
      here = k.chain (sym o.occurs_is ∙ o.present some)

      pub sited : Sited s b ends next (record { operator = e.relevant.operator; first = d.first })
      sited =
          record {
            last = k.last;
            chained = record { indexed = k.indexed; chosen = L; chain = here };
            before =
                (operator_before L b k.indexed.readable (record { first = d.first; last = k.last }) here.bounds
                (o.part_is (o.present some)) some).0;
          }

      pub surveyed-cut : {n : ℕ} (before : List ℕ) {table : List ℕ}
          → IsCuts s b next (record { operator = e.relevant.operator; first = d.first }) before n table
          → Surveyed L s b d table (record { cuts = n; to = e })
      surveyed-cut {n} before {table} filled =
          let cs = cuts L (suc e.relevant.operator) (kids (subtree_in s b e.relevant.operator)) in
          let is = filled L k.last here in
          record {
            row_is = o.row_is;
            joint_is = o.joint_is;
            layout_is = o.layout_is;
            occurs_is = o.occurs_is;
            few_cuts = omega (arith, is.0, ap length is.1, length-append cs (drop n before));
            found =
                λ h. record {
                  part_is = o.part_is h;
                  end_is = o.end_is h;
                  cuts_are = λ some. ap (take n) is.1 ∙ take_at cs (drop n before) n (sym is.0);
                };
          }
