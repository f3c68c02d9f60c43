-- The raw sheet of an expansion, by the tables of its two copies.
-- Assumes nothing.
use mathlib.Core.Path.{◌≡◌, refl, sym, ap, ap₂, ◌∙◌, subst}
use mathlib.Core.Bool.{Bool, true, false}
use mathlib.Core.List.{List, ◌++◌}
use Prim.Native.Nat.{ℕ, suc, ◌-◌, ◌≤◌}
use native.Mathlib.Omega.{arith}
use lib.Dec.{leb}
use lib.ListN.{length, take, drop, length-append}
use lib.Seq.{take_at, drop_at}
use borrow.Author.Tests.{leb-true}
use Rattle.formula.specs.Tree.{Op, and, or, Tree, Prefix, Formula, Literals, of, quantifier_of, without, has}
use Rattle.formula.specs.Tidy.{tidied}
use Rattle.formula.specs.Expand.{Copying, copying, raw_tree, raw_rows, raw, expanded}
use Rattle.formula.proofs.Booleans.{and_parts}
use Rattle.sheet.specs.Format.{Bytes, Format, sheet_length, fits}
use Rattle.sheet.specs.Sheet.{operator_kind, sheet}
use Rattle.sheet.specs.Operations.{padded}
use Rattle.rows.specs.Layouts.{format_in, Room}
use Rattle.rows.specs.Formulas.{prefix_in, matrix_in, formula_in, layout_for}
use Rattle.rows.specs.declared.Layout.{Layout}
use Rattle.subtrees.specs.Subtrees.{kids, subtree_in}
use Rattle.substitution.specs.Changes.{putting, chosen, changed}
use Rattle.substitution.proofs.Tables.{length-putting, chosen-putting, changed-putting}
use Rattle.subtrees.specs.Cuts.{cuts}
use Rattle.subtrees.specs.Parts.{relevant_subtree}
use Rattle.raw.specs.Formulas.{first_table, second_table, chosen_by, operator_of, copying_by, expanded_raw, raw_layout, Raw}
use Rattle.raw.specs.Expansions.{Expandable, Found}
use Rattle.tidying.specs.Limits as tidying
use Rattle.elimination.specs.Expanding.{Expands}
use Rattle.elimination.specs.declared.survey.Survey.{Survey}
use Rattle.elimination.proofs.RawSheets.{raw-room, prefix_without, written-raw, written-sheet, written-layout}

operator_back : (q : Op) → operator_of (operator_kind q) ≡ q
operator_back and = refl
operator_back or = refl

module _ {x : ℕ} (few : x ≤ 1024) {tables : List ℕ} (is : tables ≡ putting x false ++ putting x true) where
  first_is : first_table tables ≡ putting x false
  first_is = ap (take 1025) is ∙ take_at (putting x false) (putting x true) 1025 (length-putting x false)

  second_is : second_table tables ≡ putting x true
  second_is = ap (drop 1025) is ∙ drop_at (putting x false) (putting x true) 1025 (length-putting x false)

  two_tables : length tables ≡ 2050
  two_tables =
      omega (arith, ap length is, length-append (putting x false) (putting x true), length-putting x false, length-putting x true)

  -- the literals of x choose, and become the values that are put in
  chosen_is : chosen_by tables ≡ of x
  chosen_is = ap chosen second_is ∙ chosen-putting x few true

  copying_is : (q : Op) {j : ℕ} → j ≡ operator_kind q → copying_by tables j ≡ copying q x
  copying_is q {j} e =
      let first = ap changed first_is ∙ changed-putting x few false in
      let second = ap changed second_is ∙ changed-putting x few true in
      ap (λ (L : Literals). record {
        chosen = L;
        joint = operator_of j;
        first = changed (first_table tables);
        second = changed (second_table tables);
      }) chosen_is ∙
      ap₂ (λ (l r : Bool → ℕ → Tree). record { chosen = of x; joint = operator_of j; first = l; second = r }) first second ∙
      ap (λ (o : Op). copying o x) (ap operator_of e ∙ operator_back q)

module _ {s : Layout} {b : Bytes} {x : ℕ} {table : List ℕ} {w : Survey} {len : ℕ} (k : Expands s b x table w len) {tables : List ℕ}
    (is : tables ≡ putting x false ++ putting x true) where
  abbrev F : Format
  F = format_in s

  abbrev t : Tree
  t = matrix_in s b

  abbrev n : ℕ
  n = raw_rows (of x) t

  chosen_here : of x ≡ chosen_by tables
  chosen_here = sym (chosen_is k.named.few is)

  layout_here : w.to.layout ≡ raw_layout s n
  layout_here = k.prepared.layout_is

  fit : (n ≤ F.most_nodes) × (sheet_length F (s.variables - 1) n ≤ len)
  unfolding fits
  fit =
      let nodes : w.to.layout.nodes ≡ n = ap (λ (l : Layout). l.nodes) layout_here in
      let both = and_parts (leb n F.most_nodes) (leb (sheet_length F (s.variables - 1) n) len)
      (ap (λ m. fits F len (s.variables - 1) m) (sym nodes) ∙ k.has_room) in
      (leb-true n F.most_nodes both.0, leb-true (sheet_length F (s.variables - 1) n) len both.1)

  pub expandable : (out : Bytes) → length out ≡ len → Expandable s b tables w.to out
  expandable out long =
      let q = quantifier_of (prefix_in s b) x in
      let joint = k.prepared.joint_is in
      record {
        readable = k.from.readable;
        two_tables = two_tables k.named.few is;
        in_prefix = k.named.inside;
        joins = joint ∙ ap operator_kind (sym (ap operator_of joint ∙ operator_back q));
        layout_is = layout_here ∙ ap (λ (L : Literals). raw_layout s (raw_rows L t)) chosen_here;
        room = subst (λ l. Room l (length out)) (sym layout_here) (raw-room k.from n (omega (arith, fit.1, long)));
      }

  pub occurs : w.to.occurs ≡ has (chosen_by tables) t
  occurs = k.prepared.occurs_is ∙ ap (λ (L : Literals). has L t) chosen_here

  pub found : w.to.occurs ≡ true → Found s b tables (take w.cuts table) w.to
  found h =
      let p = k.prepared.found h in
      let at = w.to.relevant.operator in (
        record {
          present = sym occurs ∙ h;
          part_is = p.part_is ∙ ap (λ (L : Literals). relevant_subtree L 0 t) chosen_here;
          end_is = p.end_is;
        },
        λ some. p.cuts_are some ∙ ap (λ (L : Literals). cuts L (suc at) (kids (subtree_in s b at))) chosen_here,
      )

  abbrev written : Formula
  written = expanded_raw w.to.row (copying_by tables w.to.joint) (formula_in s b)

  prefix_is : written.prefix ≡ without x (prefix_in s b)
  unfolding expanded_raw formula_in
  prefix_is = prefix_without k.from k.named

  tidied_is : tidied written ≡ expanded x (formula_in s b)
  unfolding expanded_raw raw formula_in tidied expanded
  tidied_is =
      ap tidied
      (ap₂ (λ (p : Prefix) (u : Tree). record { prefix = p; matrix = u }) prefix_is
      (ap (λ (c : Copying). raw_tree c t)
      (copying_is k.named.few is (quantifier_of (prefix_in s b) x) k.prepared.joint_is)))

  module _ {old new : Bytes} (long : length old ≡ len) (same : length new ≡ length old) (r : Raw w.to.layout old new written) where
    r' : Raw (raw_layout s n) old new written
    r' = subst (λ l. Raw l old new written) layout_here r

    room : sheet_length F (s.variables - 1) n ≤ length old
    room = omega (arith, fit.1, long)

    pub raw-written : tidying.Raw w.to.layout new
    raw-written =
        subst (λ l. tidying.Raw l new) (sym layout_here)
        (written-raw k.from k.named written prefix_is fit.0 same room r')

    pub sheet-written : {out : Bytes} → out ≡ padded (length new) (sheet (format_in w.to.layout) (tidied (formula_in w.to.layout new)))
        → out ≡ padded (length old) (sheet F (expanded x (formula_in s b)))
    sheet-written h =
        written-sheet k.from k.named written prefix_is fit.0 same room r'
        (h ∙ ap (λ l. padded (length new) (sheet (format_in l) (tidied (formula_in l new)))) layout_here) ∙
        ap (λ (f : Formula). padded (length old) (sheet F f)) tidied_is

    pub layout-written : {t : Layout} → t ≡ layout_for w.to.layout.format (tidied (formula_in w.to.layout new))
        → t ≡ layout_for s.format (expanded x (formula_in s b))
    layout-written h =
        written-layout k.from k.named written prefix_is fit.0 same room r'
        (h ∙ ap (λ (l : Layout). layout_for l.format (tidied (formula_in l new))) layout_here) ∙
        ap (layout_for s.format) tidied_is

    pub sizes-written : (t : Layout) → (t.variables ≡ w.to.layout.variables) × (t.nodes ≤ w.to.layout.nodes)
        → (t.variables ≡ s.variables - 1) × (t.nodes ≤ w.to.layout.nodes)
    sizes-written t h = (h.0 ∙ ap (λ (l : Layout). l.variables) layout_here, h.1)
