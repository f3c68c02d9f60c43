-- A walk over an operator's children, of which the number is known and not where they end: rules 1 to 5.
-- Assumes nothing.
use mathlib.Core.Path.{◌≡◌, refl, sym, ap, ap₂, ◌∙◌, subst}
use mathlib.Core.Bool.{true, false, ◌||◌, or-false, true≢false}
use mathlib.Core.List.{List, [], ◌∷◌, ◌++◌, append-nil}
use mathlib.Core.Logic.{⊎_elim}
use Prim.Native.Nat.{ℕ, zero, suc, ◌+◌, ◌-◌, ◌≤◌, ◌<◌}
use native.Mathlib.Omega.{arith}
use lib.ListN.{length, get_or, set, take, drop}
use Rattle.formula.specs.Tree.{Op, and, or, dual, same_op, Tree, lit, node, Forest, ∅, ◌▸◌, ◌⧺◌, some_child, some_two, count}
use Rattle.formula.specs.Tidy.{is_op, is_empty, opposite, same_tree, spliced, splice, decides, firsts}
use Rattle.formula.proofs.Booleans.{or_parts}
use Rattle.formula.proofs.Forests.{⧺-none, ⧺-assoc, count-⧺}
use Rattle.formula.proofs.Tidy.Children.{some_two-firsts, splice-⧺, splice-none}
use Rattle.sheet.specs.Format.{Bytes, Row, row}
use Rattle.sheet.specs.Sheet.{operator_kind, front, behind}
use Rattle.rows.specs.Layouts.{total, rows_in, Room}
use Rattle.rows.specs.declared.Layout.{Layout}
use Rattle.buckets.specs.Chains.{Linked}
use Rattle.buckets.specs.Chains as chains
use Rattle.buckets.specs.Halves.{children_of}
use Rattle.buckets.proofs.Halves.{children-made}
use Rattle.buckets.proofs.Hashes.{hash_few}
use Rattle.tidy_rules.specs.declared.rules.Children.{Children}
use Rattle.std.specs.Prelude.{Option, Some, None}
use Rattle.tidy_rules.specs.declared.rules.RulesOutcome.TheVariants.{Decided, Left}
use Rattle.tidy_rules.specs.Segments.{Segment, gone, literal, operator, Segments, none, ◌◂◌, ◌⊕◌, head, inner, segment_rows, size, grown, live, Laid, Here, Owed}
use Rattle.tidy_rules.specs.Walks.{extent, at_row, Hops, JoinsAt}
use Rattle.tidy_rules.specs.Known.{Says, Told, AllTold}
use Rattle.tidy_rules.specs.Rules.{decisive, new, Unopposed, note, notes, mixes, Behind, Kept, is_decided, Judged, Judges}
use Rattle.tidy_rules.specs.Gather.{Flat, SplicesAt, ChildrenAt, Gathered, Gathers, LeavesIn}
use Rattle.tidy_rules.proofs.Segments.{⊕-assoc, stands, stands_row, live-⊕, live-◂, length-⊕, extent-head, start, done_laid, rest_laid, onward, next, store, past_here}
use Rattle.tidy_rules.proofs.Walks.{Turn, turn_at, dead_holds, count-rows}
use Rattle.tidy_rules.proofs.Hop.{live_one, not_end}
use Rattle.tidy_rules.proofs.Told.{told_at, told_join, told_one, told_gone, told_says}
use Rattle.tidy_rules.proofs.Mixes.{mixes-behind}
use Rattle.tidy_rules.proofs.Grouped.{decides-⧺, decides-before, firsts-⧺, decisive-firsts, new-firsts, single, firsts-single}
use Rattle.std.proofs.lemmas.Option.{none-some}
use Rattle.tidy_rules.proofs.Judge.{first_of, as_many}
use Rattle.tidy_rules.proofs.Join.{advanced}
use Rattle.sheet.proofs.Forests.{front-past, behind-past}

-- tables that are as long
pub tables_as : {H L M : List ℕ} {H₀ L₀ M₀ : List ℕ} {n : ℕ} → length H ≡ length H₀ → length L ≡ length L₀ → length M ≡ length M₀
    → chains.Room H₀ L₀ M₀ n → chains.Room H L M n
tables_as h l m r =
    record {
      all_heads = h ∙ r.all_heads;
      links_fit = omega (arith, l, r.links_fit);
      members_fit = omega (arith, m, r.members_fit);
      countable = r.countable;
    }

-- The trees that are owed: those passed, with a child of the parent's own kind replaced by its children, and as many of the others.
pub record Owing (o : Op) (ts us passed : Forest) (left : ℕ) (rest : Forest) : Type 0 where
  pub ahead : splice o ts ≡ passed ⧺ splice o (front left rest)
  pub past : us ≡ behind left rest
  pub enough : left ≤ count rest
  pub flat : Flat o (front left rest)

owing_none : (o : Op) (n : ℕ) (ts : Forest) → n ≤ count ts → Flat o (front n ts) → Owing o (front n ts) (behind n ts) ∅ n ts
unfolding ◌⧺◌
owing_none o n ts e f = record { ahead = refl; past = refl; enough = e; flat = f }

owing_dead : {o : Op} {ts us passed rest ws : Forest} {left : ℕ} → ws ≡ ∅ → Owing o ts us passed left (ws ⧺ rest)
    → Owing o ts us (passed ⧺ ws) left rest
unfolding ◌⧺◌
owing_dead {o} {ts} {us} {passed} {rest} {ws} {left} e w =
    subst (λ vs. Owing o ts us (passed ⧺ vs) left rest) (sym e)
    (subst (λ vs. Owing o ts us vs left rest) (sym (⧺-none passed)) (subst (λ vs. Owing o ts us passed left (vs ⧺ rest)) e w))

flat_tail : (o : Op) (t : Tree) (ts : Forest) → Flat o (t ▸ ts) → Flat o ts
unfolding Flat
flat_tail o (lit s v) ts f = f
flat_tail o (node k us) ts f = f.1

-- a tree of another kind
owing_tree : {o : Op} {ts us passed rest : Forest} {left : ℕ} (t : Tree) → is_op o t ≡ false → 0 < left → Owing o ts us passed left (t ▸ rest)
    → Owing o ts us (passed ⧺ (t ▸ ∅)) (left - 1) rest
unfolding front behind count some_child ◌⧺◌
owing_tree {left = zero} t e l w = absurd (omega arith)
owing_tree {o} {ts} {us} {passed} {rest} {left = suc left} t e l w = subst (λ m. Owing o ts us (passed ⧺ (t ▸ ∅)) m rest) (omega arith) one
  where
    one : Owing o ts us (passed ⧺ (t ▸ ∅)) left rest
    one =
        record {
          ahead =
              w.ahead ∙
              ap (λ vs. passed ⧺ vs)
              (splice-⧺ o (t ▸ ∅) (front left rest) ∙ ap (λ vs. vs ⧺ splice o (front left rest)) (splice-none o (t ▸ ∅) (or-false _ ∙ e))) ∙
              sym (⧺-assoc passed (t ▸ ∅) (splice o (front left rest)));
          past = w.past;
          enough = omega (arith, w.enough);
          flat = flat_tail o t (front left rest) w.flat;
        }

-- one of the parent's own kind: its children take its place

flat-⧺ : (o : Op) (ts us : Forest) → some_child (is_op o) ts ≡ false → Flat o us → Flat o (ts ⧺ us)
unfolding Flat some_child is_op ◌⧺◌
flat-⧺ o ∅ us e f = f
flat-⧺ o (lit s v ▸ ts) us e f = flat-⧺ o ts us e f
flat-⧺ o (node k ws ▸ ts) us e f =
    let parts = or_parts (same_op o k) (some_child (is_op o) ts) e in
    ((λ q. absurd (true≢false (sym q ∙ parts.0))), flat-⧺ o ts us parts.1 f)

splice_own : (o : Op) (ts us : Forest) → splice o (node o ts ▸ us) ≡ ts ⧺ splice o us
unfolding splice spliced
splice_own and ts us = refl
splice_own or ts us = refl

flat_own : (o : Op) (ts us : Forest) → Flat o (node o ts ▸ us) → some_child (is_op o) ts ≡ false
unfolding Flat
flat_own and ts us f = f.0 refl
flat_own or ts us f = f.0 refl

owing_own : {o : Op} {ts us passed rest : Forest} {left : ℕ} (ks : Forest) → 0 < left → Owing o ts us passed left (node o ks ▸ rest)
    → Owing o ts us passed (left - 1 + count ks) (ks ⧺ rest)
unfolding front behind count
owing_own {left = zero} ks l w = absurd (omega arith)
owing_own {o} {ts} {us} {passed} {rest} {left = suc left} ks l w =
    let few = flat_own o ks (front left rest) w.flat in
    let m = suc left - 1 + count ks in
    let more : m ≡ count ks + left = omega arith in
    record {
      ahead =
          w.ahead ∙
          ap (λ vs. passed ⧺ vs)
          (splice_own o ks (front left rest) ∙ ap (λ vs. vs ⧺ splice o (front left rest)) (sym (splice-none o ks few)) ∙
          sym (splice-⧺ o ks (front left rest)) ∙ ap (splice o) (sym (front-past ks rest m left more)));
      past = w.past ∙ sym (behind-past ks rest m left more);
      enough = omega (arith, w.enough, count-⧺ ks rest);
      flat = subst (Flat o) (sym (front-past ks rest m left more)) (flat-⧺ o ks (front left rest) few (flat_tail o (node o ks) (front left rest) w.flat));
    }

-- The segments that are done: some, and dead ones behind them.
pub record Done (K M : List ℕ) (from run n : ℕ) (o : Op) (trees : Forest) (early dead : Segments) : Type 0 where
  pub place : from + length (segment_rows early) ≡ run
  pub hidden : live dead ≡ ∅
  pub undecided : decides o trees ≡ false
  pub stays : live (early ⊕ dead) ≡ firsts same_tree trees
  pub noted : take n M ≡ notes from (early ⊕ dead)
  pub told : AllTold K from (early ⊕ dead)

-- the children that stay are no two opposite literals
done_unopposed : {K M : List ℕ} {from run n : ℕ} {o : Op} {trees : Forest} {early dead : Segments} → Done K M from run n o trees early dead
    → Unopposed (live (early ⊕ dead))
unfolding decides
done_unopposed {o = o} {trees = trees} d =
    ap (some_two opposite) d.stays ∙
    some_two-firsts same_tree opposite trees (or_parts (some_child (is_empty (dual o)) trees) _ d.undecided).1

-- a walk over segments that hold the trees ts, with us behind them
pub record Gathering (R : List Row) (K M : List ℕ) (from run at to n left : ℕ) (before after : List Row) (o : Op) (ts us : Forest) : Type 0 where
  pub trees : Forest
  pub early : Segments
  pub dead : Segments
  pub rest : Segments
  pub here : Here R from at to before (early ⊕ dead) rest after
  pub done : Done K M from run n o trees early dead
  pub owing : Owing o ts us trees left (live rest)
  pub told : AllTold K at rest

-- and at a segment that rule 1 has passed, with as many trees owed behind it
pub record Facing (R : List Row) (K M : List ℕ) (from run at to n left : ℕ) (before after : List Row) (o : Op) (ts us : Forest) : Type 0 where
  pub trees : Forest
  pub early : Segments
  pub dead : Segments
  pub segment : Segment
  pub others : Segments
  pub here : Here R from at to before (early ⊕ dead) (segment ◂ others) after
  pub done : Done K M from run n o trees early dead
  pub owing : Owing o ts us (trees ⧺ live (segment ◂ none)) left (live others)
  pub tells : Told K at segment
  pub told : AllTold K (at + size segment) others

-- whatever segments there were at first
abbrev pub From : List Row → List ℕ → ℕ → ℕ → ℕ → ℕ → (List Row → List Row → Op → Forest → Forest → Type 0) → Type 0
From R K from to owed kind P =
    (before : List Row) (bs : Segments) (after : List Row) → Laid R from to before bs after → AllTold K from bs → owed ≤ count (live bs)
    → (o : Op) → kind ≡ operator_kind o → Flat o (front owed (live bs)) → P before after o (front owed (live bs)) (behind owed (live bs))

abbrev pub Gather : List Row → List Row → List ℕ → List ℕ → ℕ → ℕ → ℕ → ℕ → ℕ → ℕ → ℕ → ℕ → Type 0
Gather R₀ R K M from run at to n owed left kind = From R₀ K from to owed kind (Gathering R K M from run at to n left)

abbrev pub Face : List Row → List Row → List ℕ → List ℕ → ℕ → ℕ → ℕ → ℕ → ℕ → ℕ → ℕ → ℕ → Type 0
Face R₀ R K M from run at to n owed left kind = From R₀ K from to owed kind (Facing R K M from run at to n left)

pub gather_none : {R : List Row} {K : List ℕ} {from to owed kind : ℕ} (M : List ℕ) → Gather R R K M from from from to 0 owed owed kind
unfolding segment_rows ◌⊕◌ live ◌⧺◌ decides firsts some_child some_two notes AllTold
gather_none {owed = owed} M before bs after l t e o k f =
    record {
      trees = ∅;
      early = none;
      dead = none;
      rest = bs;
      here = start l;
      done = record { place = omega arith; hidden = refl; undecided = refl; stays = refl; noted = refl; told = record {} };
      owing = owing_none o owed (live bs) e f;
      told = t;
    }

-- rule 1 at the next segment

other_kind : (o : Op) (x : Segment) {t : Tree} → ((head x).kind ≡ operator_kind o → ⊥) → live (x ◂ none) ≡ t ▸ ∅ → is_op o t ≡ false
unfolding head live grown is_op
other_kind o (gone rs) d e = let z : ◌≡◌ {A = ℕ} 0 1 = cc in absurd (omega arith)
other_kind o (literal s v) d e = ap (is_op o) (sym (first_of e))
other_kind and (operator and ks) d e = absurd (d refl)
other_kind and (operator or ks) d e = ap (is_op and) (sym (first_of e))
other_kind or (operator and ks) d e = ap (is_op or) (sym (first_of e))
other_kind or (operator or ks) d e = absurd (d refl)

record Own (o : Op) (x : Segment) : Type 0 where
  pub kids : Segments
  pub is : x ≡ operator o kids

own : (o : Op) (x : Segment) → (head x).kind ≡ operator_kind o → Own o x
unfolding head
own and (gone rs) e = absurd (omega arith)
own or (gone rs) e = absurd (omega arith)
own and (literal true v) e = absurd (omega arith)
own and (literal false v) e = absurd (omega arith)
own or (literal true v) e = absurd (omega arith)
own or (literal false v) e = absurd (omega arith)
own and (operator and ks) e = record { kids = ks; is = refl }
own and (operator or ks) e = absurd (omega arith)
own or (operator and ks) e = absurd (omega arith)
own or (operator or ks) e = record { kids = ks; is = refl }

said-count : (w : ℕ) (o : Op) (ks : Segments) → Says w (operator o ks) → children_of w ≡ count (live ks)
unfolding Says
said-count w o ks e = ap children_of e ∙ children-made (count (live ks)) _ (hash_few (node o (live ks)))

module _ {R : List Row} {K M : List ℕ} {from run at to n left : ℕ} {before after : List Row} {o : Op} {ts us trees : Forest} {early dead : Segments}
    (done : Done K M from run n o trees early dead) where
  face_dead : (x : Segment) (others : Segments) → Here R from at to before (early ⊕ dead) (x ◂ others) after → AllTold K at (x ◂ others)
      → Owing o ts us trees left (live (x ◂ others)) → (head x).kind ≡ 0
      → Facing R K M from run at to n left before after o ts us
  unfolding AllTold
  face_dead x others h t w k =
      record {
        trees = trees;
        early = early;
        dead = dead;
        segment = x;
        others = others;
        here = h;
        done = done;
        owing = owing_dead (dead_holds x k) (subst (Owing o ts us trees left) (live-◂ x others) w);
        tells = t.0;
        told = t.1;
      }

  face_other : (x : Segment) (others : Segments) → Here R from at to before (early ⊕ dead) (x ◂ others) after → AllTold K at (x ◂ others)
      → Owing o ts us trees left (live (x ◂ others)) → 0 < left → ((head x).kind ≡ 0 → ⊥) → ((head x).kind ≡ operator_kind o → ⊥)
      → Facing R K M from run at to n (left - 1) before after o ts us
  unfolding AllTold ◌⧺◌
  face_other x others h t w l k d =
      let one = live_one x k in
      record {
        trees = trees;
        early = early;
        dead = dead;
        segment = x;
        others = others;
        here = h;
        done = done;
        owing =
            subst (λ vs. Owing o ts us (trees ⧺ vs) (left - 1) (live others)) (sym one.is)
            (owing_tree one.tree (other_kind o x d one.is) l
            (subst (Owing o ts us trees left) (live-◂ x others ∙ ap (λ vs. vs ⧺ live others) one.is) w));
        tells = t.0;
        told = t.1;
      }

  face_own : (ks others : Segments) → Here R from at to before (early ⊕ dead) (operator o ks ◂ others) after → AllTold K at (operator o ks ◂ others)
      → Owing o ts us trees left (live (operator o ks ◂ others)) → 0 < left
      → Facing (set R at (row 0 1)) K M from run at to n (left - 1 + children_of (get_or K at 0)) before after o ts us
  unfolding AllTold Told ◌⊕◌ head inner segment_rows live grown ◌⧺◌
  face_own ks others h t w l =
      record {
        trees = trees;
        early = early;
        dead = dead;
        segment = gone [];
        others = ks ⊕ others;
        here = store (gone [] ◂ ks) (row 0 1) h refl;
        done = done;
        owing =
            owing_dead refl
            (subst (λ m. Owing o ts us trees (left - 1 + m) (live (ks ⊕ others))) (sym (said-count (get_or K at 0) o ks t.0.0))
            (subst (Owing o ts us trees (left - 1 + count (live ks))) (sym (live-⊕ ks others)) (owing_own (live ks) l w)));
        tells = told_gone K at [];
        told =
            told_join K (at + 1) ks others (told_at K ks (omega arith) t.0.1)
            (told_at K others (omega arith) t.1);
      }

face : {R R₁ : List Row} {K M : List ℕ} {from run at to n kind left left₁ : ℕ} {before after : List Row} {o : Op} {ts us : Forest}
    → Gathering R K M from run at to n left before after o ts us → kind ≡ operator_kind o → 0 < left
    → SplicesAt R R₁ at kind (get_or K at 0) left left₁ → Facing R₁ K M from run at to n left₁ before after o ts us
face {R} {R₁} {K} {M} {from} {run} {at} {to} {n} {kind} {left} {left₁} {before} {after} {o} {ts} {us} g k l s =
    let m = next g.here (not_end g.here (omega (arith, g.owing.enough))) in
    go m.segment m.others (subst (λ cs. Here R from at to before (g.early ⊕ g.dead) cs after) m.is g.here)
    (subst (AllTold K at) m.is g.told) (subst (λ cs. Owing o ts us g.trees left (live cs)) m.is g.owing)
  where
    moved : {R' : List Row} {left' : ℕ} → R₁ ≡ R' → left₁ ≡ left' → Facing R' K M from run at to n left' before after o ts us
        → Facing R₁ K M from run at to n left₁ before after o ts us
    moved {R'} {left'} a b f =
        subst (λ q. Facing R₁ K M from run at to n q before after o ts us) (sym b)
        (subst (λ rs. Facing rs K M from run at to n left' before after o ts us) (sym a) f)

    go : (x : Segment) (others : Segments) → Here R from at to before (g.early ⊕ g.dead) (x ◂ others) after → AllTold K at (x ◂ others)
        → Owing o ts us g.trees left (live (x ◂ others)) → Facing R₁ K M from run at to n left₁ before after o ts us
    go x others h t w =
        let is = ap (λ (r : Row). r.kind) (stands_row (stands h)) in
        ⊎_elim (λ d. moved d.1 d.2 (face_dead g.done x others h t w (sym is ∙ d.0)))
        (λ q.
        ⊎_elim
        (λ d. moved d.2 d.3 (face_other g.done x others h t w l (λ e. d.0 (is ∙ e)) (λ e. d.1 (is ∙ e ∙ sym k))))
        (λ d. moved d.1 d.2 (open_own (own o x (sym is ∙ d.0 ∙ k)))) q) s
      where
        open_own : Own o x → Facing (set R at (row 0 1)) K M from run at to n (left - 1 + children_of (get_or K at 0)) before after o ts us
        open_own y =
            face_own g.done y.kids others (subst (λ z. Here R from at to before (g.early ⊕ g.dead) (z ◂ others) after) y.is h)
            (subst (λ z. AllTold K at (z ◂ others)) y.is t) (subst (λ z. Owing o ts us g.trees left (live (z ◂ others))) y.is w) l

pub gather_face : {R₀ R R₁ : List Row} {K M : List ℕ} {from run at to n owed kind known left left₁ : ℕ}
    → Gather R₀ R K M from run at to n owed left kind → 0 < left → known ≡ get_or K at 0 → SplicesAt R R₁ at kind known left left₁
    → Face R₀ R₁ K M from run at to n owed left₁ kind
gather_face {R = R} {R₁} {at = at} {kind = kind} {left = left} {left₁ = left₁} w l i s before bs after laid t e o k f =
    face (w before bs after laid t e o k f) k l (subst (λ m. SplicesAt R R₁ at kind m left left₁) i s)

-- what holds of the children that there are

abbrev gathering : {R₀ R : List Row} {K M : List ℕ} {from run at to n owed left kind : ℕ} → Gather R₀ R K M from run at to n owed left kind
    → (c : ChildrenAt R₀ K from to owed kind)
    → Gathering R K M from run at to n left c.before c.after c.op (front owed (live c.segments)) (behind owed (live c.segments))
gathering w c = w c.before c.segments c.after c.laid c.told c.enough c.op c.is c.flat

abbrev facing : {R₀ R : List Row} {K M : List ℕ} {from run at to n owed left kind : ℕ} → Face R₀ R K M from run at to n owed left kind
    → (c : ChildrenAt R₀ K from to owed kind)
    → Facing R K M from run at to n left c.before c.after c.op (front owed (live c.segments)) (behind owed (live c.segments))
facing w c = w c.before c.segments c.after c.laid c.told c.enough c.op c.is c.flat

segment_there : {R : List Row} {from at to : ℕ} {before after : List Row} {done others : Segments} {x : Segment}
    → Here R from at to before done (x ◂ others) after → at < to
unfolding segment_rows
segment_there h = omega (arith, h.ends)

pub gather_turn : {s : Layout} {R₀ : List Row} {K M : List ℕ} {from run at to n owed left kind : ℕ} (b : Bytes) → Room s (length b)
    → Gather R₀ (rows_in s b) K M from run at to n owed left kind → ChildrenAt R₀ K from to owed kind → 0 < left → Turn s b at to
gather_turn b room w c l =
    let g = gathering w c in
    turn_at b room g.here (not_end g.here (omega (arith, g.owing.enough)))

pub gather_few : {R₀ R : List Row} {K M : List ℕ} {from run at to n owed left kind : ℕ} → Gather R₀ R K M from run at to n owed left kind
    → ChildrenAt R₀ K from to owed kind → (at ≤ to) × (left ≤ to)
gather_few w c =
    let g = gathering w c in
    (omega (arith, g.here.ends), omega (arith, g.owing.enough, count-rows g.rest, g.here.ends))

pub face_turn : {s : Layout} {R₀ : List Row} {K M : List ℕ} {from run at to n owed left kind : ℕ} (b : Bytes) → Room s (length b)
    → Face R₀ (rows_in s b) K M from run at to n owed left kind → ChildrenAt R₀ K from to owed kind → Turn s b at to
face_turn b room w c =
    let g = facing w c in
    turn_at b room g.here (segment_there g.here)

pub face_ordered : {R₀ R : List Row} {K M : List ℕ} {from run at to n owed left kind : ℕ} → Face R₀ R K M from run at to n owed left kind
    → ChildrenAt R₀ K from to owed kind → run ≤ at
face_ordered w c =
    let g = facing w c in
    omega (arith, g.done.place, g.here.place, length-⊕ g.early g.dead)

pub face_behind : {R₀ R : List Row} {H L M K : List ℕ} {from run at to n owed left kind known : ℕ} → Face R₀ R K M from run at to n owed left kind
    → ChildrenAt R₀ K from to owed kind → known ≡ get_or K at 0 → n ≤ length M → n ≤ at → Linked H L M n → Behind R at known H L M n
face_behind {K = K} {from = from} {at = at} w c Known-is fit few linked =
    let g = facing w c in
    record {
      standing = record { before = _; segment = g.segment; after = _; stands = stands g.here };
      says = subst (λ m. Says m g.segment) (sym Known-is) (told_says K at g.segment g.tells);
      from = from;
      before = _;
      done = g.early ⊕ g.dead;
      after = _;
      laid = done_laid g.here;
      noted = record { fit = fit; are = g.done.noted };
      few = few;
      linked = linked;
    }

changed_here : {R R' : List Row} {from at to : ℕ} {before after : List Row} {done others : Segments} {x : Segment}
    → Here R from at to before done (x ◂ others) after → (k : Kept R R' at x) → Here R' from at to before done (k.segment ◂ others) after
unfolding segment_rows ◌⊕◌
changed_here {R} {R'} {from} {at} {to} {before} {after} {done} {others} {x} h k =
    subst (λ rs. Here rs from at to before done (k.segment ◂ others) after) (sym k.stored)
    (store (k.segment ◂ none) (head k.segment) h (ap (λ rs. head k.segment ∷ rs) (append-nil (inner k.segment) ∙ k.same_rows)))

-- One child, and what it adds.
module _ {R R₁ : List Row} {K M M' : List ℕ} {from run at to n left kind known : ℕ} {answer : Option ℕ} {before after : List Row} {o : Op} {ts us : Forest}
    (g : Facing R K M from run at to n left before after o ts us) (k : kind ≡ operator_kind o) (Known-is : known ≡ get_or K at 0) (fit : n ≤ length M)
    (j : Judges R R₁ at kind known n M M' answer) where
  abbrev one : Forest
  one = live (g.segment ◂ none)

  abbrev passed : Segments
  passed = g.early ⊕ g.dead

  judged : Judged R R₁ M' from at passed g.segment o answer
  judged =
      j o k from before passed _ (done_laid g.here) (record { fit = fit; are = g.done.noted }) (done_unopposed g.done) _ g.segment _
      (stands g.here) (subst (λ m. Says m g.segment) (sym Known-is) (told_says K at g.segment g.tells))

  abbrev kept : Segment
  kept = judged.kept.segment

  one_decides : is_decided answer ≡ decides o (g.trees ⧺ one)
  one_decides =
      judged.decided_is ∙ ap (λ vs. some_child (decisive o vs) one) g.done.stays ∙ decisive-firsts o g.trees one ∙
      sym
      (decides-⧺ o g.trees one (single g.segment).unopposed ∙
      ap (λ q. q || some_child (decisive o g.trees) one) g.done.undecided)

  one_stays : {m : ℕ} → answer ≡ Some m → live passed ⧺ live (kept ◂ none) ≡ firsts same_tree (g.trees ⧺ one)
  one_stays {m} z =
      ap₂ ◌⧺◌ g.done.stays (judged.holds m z ∙ ap (λ vs. new vs one) g.done.stays ∙ new-firsts g.trees one) ∙
      ap (λ vs. firsts same_tree g.trees ⧺ new g.trees vs) (sym (firsts-single (single g.segment))) ∙ sym (firsts-⧺ g.trees one)

  -- the hash of the members before it, with its own
  hashed : {h p m : ℕ} → answer ≡ Some m → h ≡ mixes kind (take n M) → p ≡ mixes h (drop n (take m M')) → p ≡ mixes kind (take m M')
  hashed {m = m} z e f = f ∙ mixes-behind kind M (note at kept) fit (judged.noted m z ∙ ap (λ ms. ms ++ note at kept) (sym g.done.noted)) e

  kept_here : Here R₁ from at to before passed (kept ◂ g.others) after
  kept_here = changed_here g.here judged.kept

  kept-size : size kept ≡ size g.segment
  kept-size = ap (λ rs. suc (length rs)) judged.kept.same_rows

  gathered_more : {R₂ : List Row} {s run' m : ℕ} → answer ≡ Some m → s ≡ extent (at_row R at) → JoinsAt R₁ R₂ run at (at + s) run'
      → Gathering R₂ K M' from run' (at + s) to m left before after o ts us
  gathered_more {R₂} {s} {run'} {m} z e f =
      let wide : s ≡ size g.segment = e ∙ ap extent (stands_row (stands g.here)) ∙ extent-head g.segment in
      let a = advanced g.early g.dead kept g.others kept_here g.done.place g.done.hidden (wide ∙ sym kept-size) f in
      record {
        trees = g.trees ⧺ one;
        early = a.early;
        dead = a.dead;
        rest = g.others;
        here = a.here;
        done =
            record {
              place = a.place;
              hidden = a.hidden;
              undecided = sym one_decides ∙ ap is_decided z;
              stays = a.reads ∙ one_stays z;
              noted = judged.noted m z ∙ sym a.noted;
              told = a.tells K g.done.told (judged.kept.tells K g.tells);
            };
        owing = g.owing;
        told = told_at K g.others (ap (λ m. at + m) (sym wide)) g.told;
      }

  -- it decides the operator: what is owed behind it is passed
  abbrev decided : Segments
  decided = passed ⊕ (kept ◂ none)

  decided_here : {s : ℕ} → s ≡ extent (at_row R at) → Here R₁ from (at + s) to before decided g.others after
  decided_here {s} e =
      subst (λ m. Here R₁ from (at + m) to before decided g.others after)
      (kept-size ∙ sym (e ∙ ap extent (stands_row (stands g.here)) ∙ extent-head g.segment)) (onward kept_here)

  decided_told : AllTold K from decided
  decided_told =
      told_join K from passed (kept ◂ none) g.done.told
      (told_at K (kept ◂ none) (sym g.here.place) (told_one K at kept (judged.kept.tells K g.tells)))

  gathered_found : {s end : ℕ} → answer ≡ None → s ≡ extent (at_row R at) → Hops R₁ (at + s) to left end
      → Gathered R₁ K M' from end to before after o ts us None
  gathered_found {s} {end} z e f =
      let h = decided_here e in
      let p = f _ g.others after (rest_laid h) g.owing.enough in
      record {
        first = decided ⊕ p.first;
        others = p.others;
        here = past_here decided p.here g.here.starts h.place;
        others_are = p.left ∙ sym g.owing.past;
        told =
            subst (AllTold K from) (sym (⊕-assoc decided p.first p.others))
            (told_join K from decided (p.first ⊕ p.others) decided_told
            (subst (AllTold K (from + length (segment_rows decided))) p.parts
            (told_at K g.others (ap (λ m. at + m) (sym kept-size) ∙ sym (onward kept_here).place) g.told)));
        decided_is =
            sym (ap (decides o) g.owing.ahead ∙ decides-before o (g.trees ⧺ one) _ (sym one_decides ∙ ap is_decided z));
        reads = λ n e. absurd (none-some n e);
        noted = λ n e. absurd (none-some n e);
      }

pub gather_more : {R₀ R R₁ R₂ : List Row} {K M M' : List ℕ} {from run run' at to n owed left kind known m s : ℕ} {answer : Option ℕ}
    → Face R₀ R K M from run at to n owed left kind → known ≡ get_or K at 0 → n ≤ length M → Judges R R₁ at kind known n M M' answer
    → answer ≡ Some m → s ≡ extent (at_row R at) → JoinsAt R₁ R₂ run at (at + s) run'
    → Gather R₀ R₂ K M' from run' (at + s) to m owed left kind
gather_more w i fit j z e f before bs after laid t l o k d = gathered_more (w before bs after laid t l o k d) k i fit j z e f

pub gather_hashed : {R₀ R R₁ : List Row} {K M M' : List ℕ} {from run at to n owed left kind known m h p : ℕ} {answer : Option ℕ}
    → Face R₀ R K M from run at to n owed left kind → ChildrenAt R₀ K from to owed kind → known ≡ get_or K at 0 → n ≤ length M
    → Judges R R₁ at kind known n M M' answer → answer ≡ Some m → h ≡ mixes kind (take n M) → p ≡ mixes h (drop n (take m M'))
    → p ≡ mixes kind (take m M')
gather_hashed w c i fit j z e f = hashed (facing w c) c.is i fit j z e f

pub gather_owed : {R₀ R R₁ : List Row} {K M M' : List ℕ} {from run at to n owed left kind known s : ℕ} {answer : Option ℕ}
    → Face R₀ R K M from run at to n owed left kind → ChildrenAt R₀ K from to owed kind → known ≡ get_or K at 0 → n ≤ length M
    → Judges R R₁ at kind known n M M' answer → s ≡ extent (at_row R at) → Owed R₁ (at + s) to left
gather_owed w c i fit j e =
    let g = facing w c in
    record {
      region = record { before = _; segments = g.others; after = _; laid = rest_laid (decided_here g c.is i fit j e) };
      enough = g.owing.enough;
    }

pub gather_found : {R₀ R R₁ : List Row} {K M M' : List ℕ} {from run at to n owed left kind known s end : ℕ} {answer : Option ℕ}
    → Face R₀ R K M from run at to n owed left kind → known ≡ get_or K at 0 → n ≤ length M → Judges R R₁ at kind known n M M' answer
    → answer ≡ None → s ≡ extent (at_row R at) → Hops R₁ (at + s) to left end
    → Gathers R₀ R₁ K M' from end to owed kind None
gather_found w i fit j z e f before bs after laid t l o k d = gathered_found (w before bs after laid t l o k d) k i fit j z e f

pub gather_end : {R₀ R : List Row} {K M : List ℕ} {from run at to n owed left kind : ℕ} → Gather R₀ R K M from run at to n owed left kind → left ≤ 0
    → Gathers R₀ R K M from at to owed kind (Some n)
unfolding front behind splice
gather_end {K = K} {M = M} {from} {at = at} {n = n} {owed = owed} {left = left} w l before bs after laid t e o k f =
    let g = w before bs after laid t e o k f in
    let zeroth : left ≡ 0 = omega arith in
    let all : splice o (front owed (live bs)) ≡ g.trees = g.owing.ahead ∙ ap (λ m. g.trees ⧺ splice o (front m (live g.rest))) zeroth ∙ ⧺-none g.trees in
    record {
      first = g.early ⊕ g.dead;
      others = g.rest;
      here = g.here;
      others_are = sym (g.owing.past ∙ ap (λ m. behind m (live g.rest)) zeroth);
      told = told_join K from (g.early ⊕ g.dead) g.rest g.done.told (told_at K g.rest (sym g.here.place) g.told);
      decided_is = sym (ap (decides o) all ∙ g.done.undecided);
      reads = λ _ _. g.done.stays ∙ ap (firsts same_tree) (sym all);
      noted = λ _ z. ap (λ m. take m M) (as_many z) ∙ g.done.noted;
    }

-- what is left

pub leaves_decided : {w : Children} {M : List ℕ} {end : ℕ} → LeavesIn w M (Decided end)
leaves_decided = record { few = λ _ _ _ z. none_left z; hashed = λ _ _ _ z. none_left z }
  where
    none_left : {A : Type 0} {end end' n hash : ℕ} → Decided end ≡ Left end' n hash → A
    none_left e = let z : ◌≡◌ {A = ℕ} 0 1 = cc in absurd (omega arith)

pub leaves-members : {w : Children} {M : List ℕ} {end n hash : ℕ} → n ≤ total w.sheet → hash ≡ mixes w.kind (take n M) → hash < 65536
    → LeavesIn w M (Left end n hash)
leaves-members {w} {M} {end} {n} {hash} few is small =
    record {
      few = λ _ m p z. omega (arith, few, count_is z);
      hashed = λ _ m p z. (sym (hash-is z) ∙ is ∙ ap (λ q. mixes w.kind (take q M)) (count_is z), omega (arith, small, hash-is z));
    }
  where
    count_is : {e m p : ℕ} → Left end n hash ≡ Left e m p → n ≡ m
    count_is e = cc

    hash-is : {e m p : ℕ} → Left end n hash ≡ Left e m p → hash ≡ p
    hash-is e = cc
