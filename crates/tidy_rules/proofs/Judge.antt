-- Rules 2 to 5 at one segment behind others.
-- Assumes nothing.
use mathlib.Core.Path.{◌≡◌, refl, sym, ap, ap₂, ◌∙◌, subst}
use mathlib.Core.Bool.{Bool, true, false, not, ◌||◌, or-false}
use mathlib.Core.List.{List, [], ◌∷◌, ◌++◌, append-nil}
use Prim.Native.Nat.{ℕ, suc, ◌+◌, ◌-◌, ◌≤◌, ◌<◌}
use native.Mathlib.Numerals.{add-one}
use native.Mathlib.Omega.{arith}
use lib.Dec.{eqb, leb}
use lib.ListN.{length, get_or, set, take, length-append}
use lib.Seq.{append_snoc, set-get_or, take-suc-set}
use borrow.Author.Tests.{ne_eqb, eqb-true, leb-true}
use Rattle.formula.specs.Tree.{Op, and, or, dual, same_op, Tree, lit, node, Forest, ∅, ◌▸◌, some_child, keep, count}
use Rattle.formula.specs.Tidy.{is_empty, opposite, same_tree, childless}
use Rattle.formula.proofs.Booleans.{and_parts}
use Rattle.formula.proofs.Forests.{keep_all, some_child_same}
use Rattle.sheet.specs.Format.{Bytes, Row, row}
use Rattle.rows.specs.declared.Layout.{Layout}
use Rattle.rows.specs.Layouts.{total, rows_in}
use Rattle.rows.proofs.Layouts.{length-rows_in}
use Rattle.tidy_rules.specs.declared.rules.Child.{Child}
use Rattle.sheet.specs.Sheet.{literal_kind, operator_kind}
use Rattle.buckets.specs.Chains.{bucket, last, Linked, Passed}
use Rattle.buckets.specs.Chains as chains
use Rattle.buckets.specs.Halves.{member_of, row_of, known_of, children_of, hash_of}
use Rattle.std.specs.Prelude.{Option, Some, None}
use Rattle.std.proofs.lemmas.Option.{none-some}
use Rattle.buckets.specs.Hashes.{literal_mix, sign, hash}
use Rattle.buckets.proofs.Halves.{row_made, children-made, hash-made, hash_small}
use Rattle.buckets.proofs.Hashes.{hash_few}
use Rattle.tidy_rules.specs.Segments.{Segment, gone, literal, operator, Segments, none, ◌◂◌, head, inner, segment_rows, size, grown, live, Laid, Stands, Region}
use Rattle.tidy_rules.specs.Known.{Says}
use Rattle.tidy_rules.specs.Rules.{decisive, repeated, new, Unopposed, note, notes, literal_test, Test, Member, Duplicate, Noted, LiteralRow, Kept, Judged, LinkedNow, Chain, LiveChain, ToJudge}
use Rattle.tidy_rules.specs.Walks.{at_row}
use Rattle.tidy_rules.specs.Entered.{LiveAt, Same}
use Rattle.tidy_rules.proofs.Segments.{stands_row, stands_within, start}
use Rattle.tidy_rules.proofs.Walks.{like, dead_holds}
use Rattle.tidy_rules.proofs.Told.{told_gone}
use Rattle.tidy_rules.proofs.Notes.{noted_count, noted_at, notes-places, unseen, seen, unseen_duplicate, seen_duplicate, member_lives, bucket-made}
use Rattle.tidy_rules.proofs.Grouped.{Unknown, unknown, repeated_indecisive}

-- rules 2 and 3 at one segment

opposite_like : (s : Bool) (v : ℕ) (t : Tree) → opposite t (lit s v) ≡ like (not s) v t
unfolding opposite same_tree
opposite_like s v (node o ts) = refl
opposite_like true v (lit true w) = refl
opposite_like true v (lit false w) = refl
opposite_like false v (lit true w) = refl
opposite_like false v (lit false w) = refl

no_operator : (o : Op) (ks us : Forest) → some_child (λ t. opposite t (node o ks)) us ≡ false
unfolding some_child opposite
no_operator o ks ∅ = refl
no_operator o ks (lit s v ▸ us) = no_operator o ks us
no_operator o ks (node k ts ▸ us) = no_operator o ks us

pub none_dead : (P : Tree → Bool) (x : Segment) → (head x).kind ≡ 0 → some_child P (live (x ◂ none)) ≡ false
unfolding some_child
none_dead P x e = ap (some_child P) (dead_holds x e)

decisive_operator : (o : Op) (us : Forest) (k : Op) (ks : Segments)
    → some_child (decisive o us) (live (operator k ks ◂ none)) ≡ is_empty (dual o) (node k (live ks))
unfolding some_child decisive live grown
decisive_operator o us k ks =
    or-false _ ∙ ap (λ b. is_empty (dual o) (node k (live ks)) || b) (no_operator k (live ks) us) ∙ or-false _

is_empty_other : (k o : Op) (ts : Forest) → same_op k o ≡ false → is_empty k (node o ts) ≡ false
unfolding is_empty
is_empty_other k o ∅ e = e
is_empty_other k o (t ▸ ts) e = refl

is_empty_same : (k : Op) (ts : Forest) → is_empty k (node k ts) ≡ childless ts
unfolding is_empty childless
is_empty_same and ∅ = refl
is_empty_same or ∅ = refl
is_empty_same k (t ▸ ts) = refl

-- a child of the node's own kind decides nothing
pub decisive_own : (o : Op) (us : Forest) (x : Segment) → (head x).kind ≡ operator_kind o → some_child (decisive o us) (live (x ◂ none)) ≡ false
unfolding head
decisive_own and us (gone rs) e = absurd (omega arith)
decisive_own or us (gone rs) e = absurd (omega arith)
decisive_own and us (literal true v) e = absurd (omega arith)
decisive_own and us (literal false v) e = absurd (omega arith)
decisive_own or us (literal true v) e = absurd (omega arith)
decisive_own or us (literal false v) e = absurd (omega arith)
decisive_own and us (operator and ks) e = decisive_operator and us and ks ∙ is_empty_other or and (live ks) refl
decisive_own and us (operator or ks) e = absurd (omega arith)
decisive_own or us (operator and ks) e = absurd (omega arith)
decisive_own or us (operator or ks) e = decisive_operator or us or ks ∙ is_empty_other and or (live ks) refl

-- the rows behind an operator's are its children's
pub inner-laid : {R : List Row} {at : ℕ} {before after : List Row} (k : Op) (ks : Segments) → Stands R at before (operator k ks) after
    → Laid R (at + 1) (at + (head (operator k ks)).argument) (before ++ (head (operator k ks) ∷ [])) ks after
unfolding head
inner-laid {before = before} {after = after} k ks h =
    record {
      whole = h.whole ∙ sym (append_snoc before (head (operator k ks)) (segment_rows ks ++ after));
      starts = length-append before (head (operator k ks) ∷ []) ∙ omega (arith, h.starts);
      ends = omega arith;
    }

inner_region_head : {R : List Row} {at : ℕ} {before after : List Row} (x : Segment) → 4 < (head x).kind → Stands R at before x after
    → Region R (at + 1) (at + (head x).argument)
unfolding head
inner_region_head (gone rs) l h = absurd (omega arith)
inner_region_head (literal true v) l h = absurd (omega arith)
inner_region_head (literal false v) l h = absurd (omega arith)
inner_region_head (operator o ks) l h = record { before = _; segments = ks; after = _; laid = inner-laid o ks h }

pub inner_region : {R : List Row} {at a : ℕ} {before after : List Row} (x : Segment) → 4 < (head x).kind → a ≡ (head x).argument
    → Stands R at before x after → Region R (at + 1) (at + a)
inner_region {R} {at} x l e h = subst (λ m. Region R (at + 1) (at + m)) (sym e) (inner_region_head x l h)

-- an operator has no children where the table says so
childless_told : (w : ℕ) (o : Op) (ts : Forest) → w ≡ known_of (count ts) (hash (node o ts)) → eqb (children_of w) 0 ≡ childless ts
unfolding count childless
childless_told w o ts e = ap (λ n. eqb n 0) (ap children_of e ∙ children-made (count ts) (hash (node o ts)) (hash_few (node o ts))) ∙ counted ts
  where
    counted : (ts : Forest) → eqb (count ts) 0 ≡ childless ts
    counted ∅ = refl
    counted (t ▸ ts) = ne_eqb (suc (count ts)) 0 (λ z. omega arith)

-- one of the other kind does if it has none
pub decisive_other : (o : Op) (us : Forest) (x : Segment) (w : ℕ) → 4 < (head x).kind → ((head x).kind ≡ operator_kind o → ⊥) → Says w x
    → eqb (children_of w) 0 ≡ some_child (decisive o us) (live (x ◂ none))
unfolding head Says
decisive_other o us (gone rs) w l d e = absurd (omega arith)
decisive_other o us (literal true v) w l d e = absurd (omega arith)
decisive_other o us (literal false v) w l d e = absurd (omega arith)
decisive_other and us (operator and ks) w l d e = absurd (d refl)
decisive_other and us (operator or ks) w l d e =
    childless_told w or (live ks) e ∙ sym (decisive_operator and us or ks ∙ is_empty_same or (live ks))
decisive_other or us (operator and ks) w l d e =
    childless_told w and (live ks) e ∙ sym (decisive_operator or us and ks ∙ is_empty_same and (live ks))
decisive_other or us (operator or ks) w l d e = absurd (d refl)

-- the segment stays as it is
pub kept_same : {R : List Row} {at : ℕ} {before after : List Row} (x : Segment) → Stands R at before x after → Kept R R at x
kept_same {R} {at} x h =
    record {
      segment = x;
      stored = sym (set-get_or R at (row 0 0)) ∙ ap (set R at) (stands_row h);
      same_rows = refl;
      tells = λ K t. t;
    }

-- it decides the node
pub judged_decided : {R : List Row} {M' : List ℕ} {from at : ℕ} {before after : List Row} {done : Segments} {x : Segment} {o : Op}
    → Stands R at before x after → some_child (decisive o (live done)) (live (x ◂ none)) ≡ true → Judged R R M' from at done x o None
judged_decided {x = x} h e =
    record { decided_is = sym e; kept = kept_same x h; holds = λ n z. absurd (none-some n z); noted = λ n z. absurd (none-some n z) }

pub as_many : {n m : ℕ} → Some n ≡ Some m → m ≡ n
as_many e = cc

-- the members' links
pub linked_decided : {H L M : List ℕ} {before : ℕ} → LinkedNow H L M before None
linked_decided = record { linked = λ n z. absurd (none-some n z); few = λ n z. absurd (none-some n z) }

pub linked-members : {H L M : List ℕ} {n before : ℕ} → Linked H L M n → n ≤ before + 1 → LinkedNow H L M before (Some n)
linked-members {H} {L} {M} lk l =
    record { linked = λ m z. subst (Linked H L M) (sym (as_many z)) lk; few = λ m z. omega (arith, as_many z) }

no_more : (M N : List ℕ) {n m : ℕ} → m ≡ n → take n M ≡ N → take m M ≡ N ++ []
no_more M N e f = ap (λ m. take m M) e ∙ f ∙ sym (append-nil N)

-- it stays, and is no member
pub judged_passed : {R : List Row} {M : List ℕ} {from at n : ℕ} {before after : List Row} {done : Segments} {x : Segment} {o : Op}
    → Stands R at before x after → some_child (decisive o (live done)) (live (x ◂ none)) ≡ false
    → some_child (repeated (live done)) (live (x ◂ none)) ≡ false → note at x ≡ [] → Noted M n from done
    → Judged R R M from at done x o (Some n)
unfolding kept_same
judged_passed {M = M} {from = from} {n = n} {done = done} {x = x} h d r e noted =
    record {
      decided_is = sym d;
      kept = kept_same x h;
      holds = λ _ _. sym (keep_all (repeated (live done)) (live (x ◂ none)) r);
      noted = λ m z. no_more M (notes from done) (as_many z) noted.are ∙ ap (λ ns. notes from done ++ ns) (sym e);
    }

-- a segment that is not dead

pub live-kind : (x : Segment) {t : Tree} → live (x ◂ none) ≡ t ▸ ∅ → (head x).kind ≡ 0 → ⊥
unfolding head live grown
live-kind (gone rs) e z = let z : ◌≡◌ {A = ℕ} 0 1 = cc in omega arith
live-kind (literal true v) e z = omega arith
live-kind (literal false v) e z = omega arith
live-kind (operator and ks) e z = omega arith
live-kind (operator or ks) e z = omega arith

pub live-above : (x : Segment) → ((head x).kind ≡ 0 → ⊥) → 2 < (head x).kind
unfolding head
live-above (gone rs) e = absurd (e refl)
live-above (literal true v) e = omega arith
live-above (literal false v) e = omega arith
live-above (operator and ks) e = omega arith
live-above (operator or ks) e = omega arith

-- a literal's segment
pub record LiteralSegment (x : Segment) : Type 0 where
  pub sign_of : Bool
  pub variable : ℕ
  pub is : x ≡ literal sign_of variable

literal_segment : (x : Segment) → 2 < (head x).kind → (head x).kind ≤ 4 → LiteralSegment x
unfolding head
literal_segment (gone rs) l u = absurd (omega arith)
literal_segment (literal s v) l u = record { sign_of = s; variable = v; is = refl }
literal_segment (operator and ks) l u = absurd (omega arith)
literal_segment (operator or ks) l u = absurd (omega arith)

opposite-kind : (s : Bool) (k : ℕ) → 2 < k → k ≤ 4 → (k ≡ literal_kind s → ⊥) → k ≡ literal_kind (not s)
opposite-kind true k l u d = omega arith
opposite-kind false k l u d = omega arith

decisive-found : (o : Op) (us : Forest) (s : Bool) (v : ℕ) → some_child (like (not s) v) us ≡ true → decisive o us (lit s v) ≡ true
unfolding decisive is_empty
decisive-found o us s v e = some_child_same (opposite_like s v) us ∙ e

-- members stand before the segment
pub members-within : {R : List Row} {M : List ℕ} {n from at : ℕ} {before after : List Row} {done : Segments} → Laid R from at before done after
    → Noted M n from done → (j : ℕ) → j < n → row_of (get_or M j 0) < at
members-within {from = from} {done = done} laid noted j l =
    omega (arith, ap row_of (noted_at noted j l), notes-places from done j (omega (arith, noted_count noted)), laid.ends)

-- and each is a live segment
pub member_at : {R : List Row} {M : List ℕ} {n from at : ℕ} {before after : List Row} {done : Segments} → Laid R from at before done after
    → Noted M n from done → (j : ℕ) → j < n → LiveAt R (row_of (get_or M j 0))
member_at {R} {done = done} laid noted j l =
    subst (λ m. LiveAt R (row_of m)) (sym (noted_at noted j l)) (member_lives done (start laid) j (omega (arith, noted_count noted)))

-- A child that can be judged is among the rows, there is room for it among the members, and the chains of the members before it can be
-- searched.
module _ {s : Layout} {b : Bytes} {c : Child} {H L M : List ℕ} (t : ToJudge s b c H L M) where
  pub judged_inside : c.at < total s
  judged_inside = omega (arith, stands_within t.behind.standing.stands, length-rows_in b t.room)

  pub judged_room : chains.Room H L M (c.before + 1)
  judged_room =
      record {
        all_heads = t.tables.all_heads;
        links_fit = omega (arith, judged_inside, t.tables.links_fit, t.behind.few);
        members_fit = omega (arith, judged_inside, t.tables.members_fit, t.behind.few);
        countable = omega (arith, judged_inside, t.tables.countable, t.behind.few);
      }

  pub judged_chain : (k : ℕ) {start : Option ℕ} → start ≡ last M k c.before → Chain (total s) L M start
  judged_chain k e =
      record {
        heads = H;
        count = c.before;
        bucket_of = k;
        linked = t.behind.linked;
        starts = e;
        links_fit = omega (arith, judged_room.links_fit);
        members_fit = omega (arith, judged_room.members_fit);
        places = λ j l. omega (arith, members-within t.behind.laid t.behind.noted j l, judged_inside);
      }

  pub judged_alive : (k : ℕ) {start : Option ℕ} → start ≡ last M k c.before → LiveChain (rows_in s b) (total s) L M start
  unfolding judged_chain
  judged_alive k e = record { chain = judged_chain k e; lives = λ j l. member_at t.behind.laid t.behind.noted j l }

one_more : (M : List ℕ) {M' : List ℕ} (m : ℕ) {n q : ℕ} → n < length M → q ≡ n + 1 → M' ≡ set M n m → take q M' ≡ take n M ++ (m ∷ [])
one_more M m {n} few e f = ap₂ take (e ∙ add-one n) f ∙ take-suc-set M n m few

-- A literal at a row, by the row's kind and argument.
module _ {R : List Row} {at kind v : ℕ} (row_is : LiteralRow R at kind) (v-is : v ≡ (at_row R at).argument)
    {from n : ℕ} {M : List ℕ} {before after : List Row} {done : Segments} (laid : Laid R from at before done after)
    (noted : Noted M n from done) where
  abbrev us : Forest
  us = live done

  counted : length (notes from done) ≡ n
  counted = noted_count noted

  module _ {front back : List Row} {x : Segment} (h : Stands R at front x back) where
    kind_is : kind ≡ (head x).kind
    kind_is = row_is.is ∙ ap (λ (r : Row). r.kind) (stands_row h)

    b : LiteralSegment x
    b = literal_segment x (omega (arith, kind_is, row_is.above)) (omega (arith, kind_is, row_is.below))

    head-is : head x ≡ row (literal_kind b.sign_of) b.variable
    unfolding head
    head-is = ap head b.is

    kind-sign : kind ≡ literal_kind b.sign_of
    kind-sign = kind_is ∙ ap (λ (r : Row). r.kind) head-is

    variable_is : v ≡ b.variable
    variable_is = v-is ∙ ap (λ (r : Row). r.argument) (stands_row h) ∙ ap (λ (r : Row). r.argument) head-is

    sign-is : 4 - kind ≡ sign b.sign_of
    sign-is = ap (λ k. 4 - k) kind-sign ∙ both b.sign_of
      where
        both : (s : Bool) → 4 - literal_kind s ≡ sign s
        both true = refl
        both false = refl

    abbrev literal-tree : Tree
    literal-tree = lit b.sign_of b.variable

    one_tree : live (x ◂ none) ≡ literal-tree ▸ ∅
    unfolding live grown
    one_tree = ap (λ y. live (y ◂ none)) b.is

    tested : (P : Tree → Bool) → some_child P (live (x ◂ none)) ≡ P literal-tree
    unfolding some_child
    tested P = ap (some_child P) one_tree ∙ or-false (P literal-tree)

    hash-is : {p : ℕ} → p ≡ literal_mix (4 - kind) v → p ≡ literal_mix (sign b.sign_of) b.variable
    hash-is e = e ∙ ap₂ literal_mix sign-is variable_is

    -- none of its variable is before it
    pub judged-new : {p m : ℕ} {M' : List ℕ} (o : Op) → p ≡ literal_mix (4 - kind) v → Passed M n (bucket p) (Test R M v) None
        → m ≡ member_of at p → M' ≡ set M n m → n < length M → Judged R R M' from at done x o (Some (n + 1))
    unfolding note kept_same
    judged-new {p} {m} {M'} o p_is passed m-is M-is few =
        record {
          decided_is = sym (tested (decisive o us) ∙ un.indecisive);
          kept = kept_same x h;
          holds = λ _ _. sym (keep_all (repeated us) (live (x ◂ none)) (tested (repeated us) ∙ un.unrepeated));
          noted =
              λ _ z.
              one_more M m few (as_many z) M-is ∙ ap₂ (λ ns q. ns ++ (q ∷ [])) noted.are (m-is ∙ ap (member_of at) (hash-is p_is)) ∙
              ap (λ y. notes from done ++ note at y) (sym b.is);
        }
      where
        un : Unknown o us literal-tree
        un =
            unknown o us b.sign_of b.variable
            (unseen done b.sign_of b.variable (start laid)
            (λ j u e t.
            let i = noted_at noted j (omega (arith, counted)) in
            passed.failed j (omega arith) (omega (arith, counted))
            (ap bucket i ∙ e ∙ sym (ap bucket (hash-is p_is)))
            (ap (λ m. literal_test (at_row R (row_of m)) v) i ∙ ap (literal_test (at_row R (row_of (get_or (notes from done) j 0)))) variable_is ∙ t)))

    -- the row of a member of its variable
    member-row : (j : ℕ) → j < n → Test R M v j → (s : Bool) → (at_row R (row_of (get_or M j 0))).kind ≡ literal_kind s
        → some_child (like s b.variable) us ≡ true
    member-row j l t s k =
        let i = noted_at noted j l in
        let a = eqb-true _ v (and_parts (leb (at_row R (row_of (get_or M j 0))).kind 4) _ t).1 in
        seen done s b.variable (start laid) j (omega (arith, counted))
        (ap (λ m. at_row R (row_of m)) (sym i) ∙ ap₂ row k (a ∙ variable_is))

    -- one of the same kind is
    pub judged-again : {j : ℕ} {R' : List Row} (o : Op) → j < n → Test R M v j → (at_row R (row_of (get_or M j 0))).kind ≡ kind
        → R' ≡ set R at (row 0 1) → Unopposed us → Judged R R' M from at done x o (Some n)
    unfolding head inner live grown keep repeated note
    judged-again {j} {R'} o l t k R-is two =
        let again : repeated us literal-tree ≡ true = member-row j l t b.sign_of (k ∙ kind-sign) in
        record {
          decided_is = sym (tested (decisive o us) ∙ repeated_indecisive o us b.sign_of b.variable two again);
          kept = record { segment = gone []; stored = R-is; same_rows = sym (ap inner b.is); tells = λ K _. told_gone K at [] };
          holds = λ _ _. sym (ap (new us) one_tree ∙ gone-again again);
          noted = λ _ z. no_more M (notes from done) (as_many z) noted.are;
        }
      where
        gone-again : repeated us literal-tree ≡ true → new us (literal-tree ▸ ∅) ≡ ∅
        gone-again r = rw r

    -- one of the other kind is
    pub judged-opposite : {j : ℕ} (o : Op) → j < n → Test R M v j → ((at_row R (row_of (get_or M j 0))).kind ≡ kind → ⊥)
        → Judged R R M from at done x o None
    judged-opposite {j} o l t k =
        judged_decided h
        (tested (decisive o us) ∙ decisive-found o us b.sign_of b.variable (member-row j l t (not b.sign_of) other))
      where
        above : 2 < (at_row R (row_of (get_or M j 0))).kind
        above =
            let m = member_at laid noted j l in
            omega (arith, live-above m.segment (live-kind m.segment m.holds), ap (λ (r : Row). r.kind) (stands_row m.stands))

        below : (at_row R (row_of (get_or M j 0))).kind ≤ 4
        below = leb-true _ 4 (and_parts (leb (at_row R (row_of (get_or M j 0))).kind 4) _ t).0

        other : (at_row R (row_of (get_or M j 0))).kind ≡ literal_kind (not b.sign_of)
        other = opposite-kind b.sign_of _ above below (λ e. k (e ∙ sym kind-sign))

pub first_of : {t u : Tree} {ts us : Forest} → t ▸ ts ≡ u ▸ us → t ≡ u
first_of e = cc

dropped_one : (us : Forest) (t : Tree) → some_child (λ w. same_tree w t) us ≡ true → new us (t ▸ ∅) ≡ ∅
unfolding keep repeated
dropped_one us t r = rw r

hash-literal : (s : Bool) (v : ℕ) → hash (lit s v) ≡ literal_mix (sign s) v
unfolding hash
hash-literal s v = refl

-- a live segment is noted by its tree
note_is : (r : ℕ) (x : Segment) (t : Tree) → live (x ◂ none) ≡ t ▸ ∅ → note r x ≡ member_of r (hash t) ∷ []
unfolding note live grown
note_is r (gone rs) t e = let z : ◌≡◌ {A = ℕ} 0 1 = cc in absurd (omega arith)
note_is r (literal s v) t e = ap (λ p. member_of r p ∷ []) (sym (hash-literal s v) ∙ ap hash (first_of e))
note_is r (operator o ks) t e = ap (λ u. member_of r (hash u) ∷ []) (first_of e)

-- what the table tells of an operator ends with its hash
pub said-hash : (w : ℕ) (x : Segment) {t : Tree} → 4 < (head x).kind → Says w x → live (x ◂ none) ≡ t ▸ ∅ → hash_of w ≡ hash t
unfolding head Says live grown
said-hash w (gone rs) l e i = absurd (omega arith)
said-hash w (literal true v) l e i = absurd (omega arith)
said-hash w (literal false v) l e i = absurd (omega arith)
said-hash w (operator o ks) l e i =
    ap hash_of e ∙ hash-made (count (live ks)) _ (hash_few (node o (live ks))) ∙ ap hash (first_of i)

-- so it makes a member
pub row-said : {m at : ℕ} (w : ℕ) → m ≡ member_of at (hash_of w) → row_of m ≡ at
row-said {at = at} w e = ap row_of e ∙ row_made at (hash_of w) (hash_small w)

abbrev pub said-member : {R : List Row} {m at : ℕ} {front back : List Row} (w : ℕ) (x : Segment) (t : Tree) → m ≡ member_of at (hash_of w)
    → Stands R at front x back → 4 < (head x).kind → Says w x → live (x ◂ none) ≡ t ▸ ∅ → Member R m
said-member {R} {m} {at} {front} {back} w x t m-is h l e i =
    record {
      lives =
          record {
            before = front;
            segment = x;
            after = back;
            stands = subst (λ r. Stands R r front x back) (sym (row-said w m-is)) h;
            tree = t;
            holds = i;
          };
      hashed = ap hash_of m-is ∙ hash-made at (hash_of w) (hash_small w) ∙ said-hash w x l e i;
    }

-- an operator covers as many rows as it says
pub operator_size : (x : Segment) → 4 < (head x).kind → (head x).argument ≡ size x
unfolding head inner
operator_size (gone rs) l = absurd (omega arith)
operator_size (literal true v) l = absurd (omega arith)
operator_size (literal false v) l = absurd (omega arith)
operator_size (operator o ks) l = refl

-- An operator at a row, by its hash.
module _ {R : List Row} {at from n : ℕ} {M : List ℕ} {before after : List Row} {done : Segments} (laid : Laid R from at before done after)
    (noted : Noted M n from done) {front back : List Row} {x : Segment} {t : Tree} (h : Stands R at front x back) (tree-there : live (x ◂ none) ≡ t ▸ ∅)
    (o : Op) (undecided : some_child (decisive o (live done)) (live (x ◂ none)) ≡ false) where
  operator_tested : (P : Tree → Bool) → some_child P (live (x ◂ none)) ≡ P t
  unfolding some_child
  operator_tested P = ap (some_child P) tree-there ∙ or-false (P t)

  -- none is the same
  pub operator_new : {m : ℕ} {M' : List ℕ} → m ≡ member_of at (hash t) → Passed M n (bucket m) (λ j. Duplicate R (get_or M j 0) t) None
      → M' ≡ set M n m → n < length M → Judged R R M' from at done x o (Some (n + 1))
  unfolding kept_same repeated
  operator_new {m} {M'} m-is passed M-is few =
      record {
        decided_is = sym undecided;
        kept = kept_same x h;
        holds = λ _ _. sym (keep_all (repeated (live done)) (live (x ◂ none)) (operator_tested (repeated (live done)) ∙ fresh));
        noted =
            λ _ z.
            one_more M m few (as_many z) M-is ∙ ap₂ (λ ns q. ns ++ (q ∷ [])) noted.are m-is ∙
            ap (λ ns. notes from done ++ ns) (sym (note_is at x t tree-there));
      }
    where
      fresh : some_child (λ w. same_tree w t) (live done) ≡ false
      fresh =
          unseen_duplicate t done (start laid)
          (λ j u e w.
          let i = noted_at noted j (omega (arith, noted_count noted)) in
          passed.failed j (omega arith) (omega (arith, noted_count noted)) (ap bucket i ∙ e ∙ sym (ap bucket m-is ∙ bucket-made at (hash t)))
          (subst (λ q. Duplicate R q t) (sym i) w))

  -- one is
  pub operator_again : {j q : ℕ} {R' : List Row} → j < n → q ≡ at → Same R (row_of (get_or M j 0)) q true → R' ≡ set R at (row 0 (size x))
      → Judged R R' M from at done x o (Some n)
  unfolding head inner live grown note
  operator_again {j} {R' = R'} l q-is d R-is =
      record {
        decided_is = sym undecided;
        kept = record { segment = gone (inner x); stored = R-is; same_rows = refl; tells = λ K _. told_gone K at (inner x) };
        holds = λ _ _. sym (ap (new (live done)) tree-there ∙ dropped again);
        noted = λ _ z. no_more M (notes from done) (as_many z) noted.are;
      }
    where
      again : some_child (λ w. same_tree w t) (live done) ≡ true
      again =
          seen_duplicate done x t h tree-there (start laid) j (omega (arith, noted_count noted))
          (subst (λ m. Same R (row_of m) at true) (noted_at noted j l) (subst (λ q. Same R (row_of (get_or M j 0)) q true) q-is d))

      dropped : some_child (λ w. same_tree w t) (live done) ≡ true → new (live done) (t ▸ ∅) ≡ ∅
      dropped r = dropped_one (live done) t r
