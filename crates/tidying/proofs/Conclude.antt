-- An operator's row overwritten: an empty operator, a lone child, or the operator over what is left of its children.
-- Assumes nothing.
use mathlib.Core.Path.{◌≡◌, refl, sym, ap, ap₂, ◌∙◌, subst}
use mathlib.Core.List.{List, [], ◌∷◌, ◌++◌, append-nil}
use Prim.Native.Nat.{ℕ, suc, ◌+◌, ◌-◌, ◌≤◌, ◌<◌}
use native.Mathlib.Omega.{arith}
use lib.ListN.{length, get_or, set, take, length-append}
use lib.Seq.{set_at, append_snoc, take-suc, length-take-le, get_or-set_same, get_or-set_other}
use Rattle.formula.specs.Tree.{Op, and, or, node, Forest, ∅, ◌▸◌, count}
use Rattle.formula.specs.Tidy.{unwrap}
use Rattle.sheet.specs.Format.{Row, row}
use Rattle.sheet.specs.Sheet.{operator_kind}
use Rattle.buckets.specs.Halves.{row_of, known_of}
use Rattle.buckets.specs.Hashes.{hash}
use Rattle.tidy_rules.specs.Segments.{gone, operator, Segments, none, ◌◂◌, head, inner, segment_rows, grown, live, Laid}
use Rattle.tidy_rules.specs.Rules.{mixes}
use Rattle.tidy_rules.specs.Known.{Says, Told, AllTold}
use Rattle.tidy_rules.proofs.Segments.{rows-⊕, length-⊕, no_rows}
use Rattle.tidy_rules.proofs.Told.{told_at, told_last, told_keeps}
use Rattle.tidying.specs.Inner.Operators.{Headed, Replaced, KeptBehind, Hollows, Left, Concludes}
use Rattle.tidying.proofs.Members.{count_none, notes-count, mixes-hash, Lone, lone}

module _ {R : List Row} {r end : ℕ} {before after : List Row} {x : Row} {bs : Segments} (l : Headed R r end before x bs after) where
  -- the segments behind the row
  pub behind-row : Laid R (r + 1) end (before ++ (x ∷ [])) bs after
  behind-row =
      record {
        whole = l.whole ∙ sym (append_snoc before x (segment_rows bs ++ after));
        starts = length-append before (x ∷ []) ∙ omega (arith, l.starts);
        ends = l.ends;
      }

  overwritten : (y : Row) → set R r y ≡ before ++ (y ∷ (segment_rows bs ++ after))
  overwritten y = ap (λ (rs : List Row). set rs r y) l.whole ∙ set_at before x (segment_rows bs ++ after) y r l.starts

  -- segments in place of the row and those behind it
  replaced : {R' : List Row} {ts : Forest} (K : List ℕ) (cs : Segments) → R' ≡ before ++ (segment_rows cs ++ after)
      → length (segment_rows cs) ≡ suc (length (segment_rows bs)) → AllTold K r cs → live cs ≡ ts → Replaced R' K r end before after ts
  replaced K cs e n t h =
      record {
        segments = cs;
        laid = record { whole = e; starts = l.starts; ends = omega (arith, l.ends, n) };
        told = t;
        reads = h;
      }

  size_is : end - r ≡ suc (length (segment_rows bs))
  size_is = omega (arith, l.ends)

  -- the operator stays
  operator_put : (K : List ℕ) (kind : ℕ) (o : Op) → kind ≡ operator_kind o → get_or K r 0 ≡ known_of (count (live bs)) (hash (node o (live bs)))
      → AllTold K (r + 1) bs → Replaced (set R r (row kind (end - r))) K r end before after (node o (live bs) ▸ ∅)
  unfolding segment_rows head inner live grown Says Told AllTold
  operator_put K kind o k says told =
      replaced K (operator o bs ◂ none)
      (overwritten (row kind (end - r)) ∙ ap₂ (λ k' s. before ++ (row k' s ∷ (segment_rows bs ++ after))) k size_is ∙
      ap (λ rs. before ++ (row (operator_kind o) (suc (length (segment_rows bs))) ∷ (rs ++ after))) (sym (append-nil (segment_rows bs))))
      (ap (λ rs. suc (length rs)) (append-nil (segment_rows bs)))
      ((says, told_at K bs (omega arith) told), tt) refl

  -- a lone child replaces it
  lone_put : {p : ℕ} (K : List ℕ) → AllTold K (r + 1) bs → Lone (r + 1) p bs → Replaced (set R r (row 0 (p - r))) K r end before after (live bs)
  unfolding segment_rows head inner live grown Told AllTold
  lone_put {p} K told f =
      let rows_are : segment_rows bs ≡ segment_rows f.done ++ segment_rows f.rest = ap segment_rows f.is ∙ rows-⊕ f.done f.rest in
      replaced K (gone (segment_rows f.done) ◂ f.rest)
      (overwritten (row 0 (p - r)) ∙ ap₂ (λ a rs. before ++ (row 0 a ∷ (rs ++ after))) (reach f.place) rows_are)
      (ap suc (ap length (sym rows_are)))
      (tt, told_at K f.rest (omega arith) (told_last K (r + 1) f.done f.rest (subst (AllTold K (r + 1)) f.is told)))
      (f.holds ∙ sym f.reads)
    where
      reach : {m : ℕ} → r + 1 + m ≡ p → p - r ≡ suc m
      reach e = omega arith

pub replaced_as : {R R' : List Row} {K : List ℕ} {r to : ℕ} {before after : List Row} {ts us : Forest} → R' ≡ R → ts ≡ us
    → Replaced R K r to before after ts → Replaced R' K r to before after us
replaced_as {R} {R'} {K} {r} {to} {before} {after} {ts} {us} e f h =
    record {
      segments = h.segments;
      laid = subst (λ rs. Laid rs r to before h.segments after) (sym e) h.laid;
      told = h.told;
      reads = h.reads ∙ f;
    }

-- an entry stored

pub behind-set : (K : List ℕ) {K' : List ℕ} {r : ℕ} (w : ℕ) → K' ≡ set K r w → KeptBehind K K' r
behind-set K {K'} {r} w e j l = ap (λ (k : List ℕ). get_or k j 0) e ∙ get_or-set_other K r j w 0 (λ z. omega (arith, z, l))

entry_set : (K : List ℕ) {K' : List ℕ} {r w : ℕ} → K' ≡ set K r w → r < length K → get_or K' r 0 ≡ w
entry_set K {K'} {r} {w} e l = ap (λ (k : List ℕ). get_or k r 0) e ∙ get_or-set_same K r w 0 l

-- the operator is empty: no row behind it, or a dead segment

says_empty : (w kind : ℕ) (o : Op) → kind ≡ operator_kind o → w ≡ known_of 0 kind → w ≡ known_of (count ∅) (hash (node o ∅))
unfolding count hash
says_empty w kind and k e = e ∙ ap (known_of 0) k
says_empty w kind or k e = e ∙ ap (known_of 0) k

dead_rows : (o : Op) (ys : List Row)
    → segment_rows (operator o (gone ys ◂ none) ◂ none) ≡ row (operator_kind o) (suc (suc (length ys))) ∷ (row 0 (suc (length ys)) ∷ ys)
unfolding segment_rows head inner
dead_rows o ys =
    simp append-nil (ap (λ rs. row (operator_kind o) (suc (suc (length rs))) ∷ (row 0 (suc (length ys)) ∷ ys)) (append-nil ys))

module _ {R : List Row} {r end : ℕ} {before after : List Row} {x : Row} {bs : Segments} (K : List ℕ) (kind : ℕ) (o : Op) (k : kind ≡ operator_kind o)
    (entry : get_or K r 0 ≡ known_of 0 kind) (l : Headed R r end before x bs after) where
  hollow_short : end ≤ r + 1 → Replaced (set R r (row kind (end - r))) K r end before after (node o ∅ ▸ ∅)
  unfolding live AllTold
  hollow_short s =
      let no : bs ≡ none = no_rows bs (omega (arith, l.ends)) in
      subst (λ cs. Replaced (set R r (row kind (end - r))) K r end before after (node o (live cs) ▸ ∅)) no
      (operator_put l K kind o k
      (subst (λ cs. get_or K r 0 ≡ known_of (count (live cs)) (hash (node o (live cs)))) (sym no) (says_empty (get_or K r 0) kind o k entry))
      (subst (AllTold K (r + 1)) (sym no) tt))

  hollow_long : r + 1 < end → Replaced (set (set R r (row kind (end - r))) (r + 1) (row 0 (end - r - 1))) K r end before after (node o ∅ ▸ ∅)
  unfolding live grown Says Told AllTold
  hollow_long s = go (segment_rows bs) refl
    where
      go : (rs : List Row) → segment_rows bs ≡ rs
          → Replaced (set (set R r (row kind (end - r))) (r + 1) (row 0 (end - r - 1))) K r end before after (node o ∅ ▸ ∅)
      go [] e = absurd (omega (arith, l.ends, ap length e))
      go (y ∷ ys) e =
          let counted : length (segment_rows bs) ≡ suc (length ys) = ap length e in
          let outer : end - r ≡ suc (suc (length ys)) = omega (arith, l.ends) in
          let within : end - r - 1 ≡ suc (length ys) = omega (arith, l.ends) in
          let h = row kind (end - r) in
          let z = row 0 (end - r - 1) in
          let one : length (before ++ (h ∷ [])) ≡ r + 1 = length-append before (h ∷ []) ∙ omega (arith, l.starts) in
          replaced l K (operator o (gone ys ◂ none) ◂ none)
          (ap (λ (q : List Row). set q (r + 1) z) (overwritten l h ∙ ap (λ rs. before ++ (h ∷ (rs ++ after))) e ∙ sym (append_snoc before h (y ∷ (ys ++ after)))) ∙
          set_at (before ++ (h ∷ [])) y (ys ++ after) z (r + 1) one ∙
          append_snoc before h (z ∷ (ys ++ after)) ∙
          ap₂ (λ a c. before ++ (row kind a ∷ (row 0 c ∷ (ys ++ after)))) outer within ∙
          ap (λ k'. before ++ (row k' (suc (suc (length ys))) ∷ (row 0 (suc (length ys)) ∷ (ys ++ after)))) k ∙
          ap (λ rs. before ++ (rs ++ after)) (sym (dead_rows o ys)))
          (ap length (dead_rows o ys) ∙ omega (arith, counted))
          ((says_empty (get_or K r 0) kind o k entry, (tt, tt)), tt) refl

module _ {R R₁ : List Row} (K : List ℕ) {K₁ : List ℕ} {r end kind : ℕ} (e : R₁ ≡ set R r (row kind (end - r))) (f : K₁ ≡ set K r (known_of 0 kind))
    (u : r < length K) where
  pub hollows_short : end ≤ r + 1 → Hollows R R₁ K₁ r end kind
  hollows_short s before x bs after l o k = replaced_as e refl (hollow_short K₁ _ o k (entry_set K f u) l s)

  pub hollows_long : {R₂ : List Row} → R₂ ≡ set R₁ (r + 1) (row 0 (end - r - 1)) → r + 1 < end → Hollows R R₂ K₁ r end kind
  hollows_long e₂ s before x bs after l o k =
      replaced_as (e₂ ∙ ap (λ (rs : List Row). set rs (r + 1) (row 0 (end - r - 1))) e) refl (hollow_long K₁ _ o k (entry_set K f u) l s)

-- rule 6, by how many members there are

unwrap_many : (o : Op) (ts : Forest) → 1 < count ts → node o ts ▸ ∅ ≡ unwrap o ts ▸ ∅
unfolding unwrap count
unwrap_many o ∅ l = absurd (omega arith)
unwrap_many o (t ▸ ∅) l = absurd (omega arith)
unwrap_many o (t ▸ u ▸ ts) l = refl

module _ {R : List Row} {K M : List ℕ} {r end left : ℕ} {before : List Row} {x : Row} {bs : Segments} {after : List Row}
    (h : Left R K M r end left before x bs after) (fit : left ≤ length M) where
  left-count : count (live bs) ≡ left
  left-count = sym (notes-count (r + 1) bs) ∙ ap length (sym h.noted) ∙ length-take-le left M fit

  left_lone : {p : ℕ} → left ≡ 1 → p ≡ row_of (get_or M 0 0) → Lone (r + 1) p bs
  left_lone e f =
      subst (λ q. Lone (r + 1) q bs) (sym f) (lone (r + 1) _ bs (sym h.noted ∙ ap (λ n. take n M) e ∙ take-suc M 0 0 (omega (arith, e, fit))))

  pub lone_within : {p : ℕ} → left ≡ 1 → p ≡ row_of (get_or M 0 0) → (r < p) × (p ≤ end)
  lone_within e f =
      let l = left_lone e f in (
        omega (arith, l.place),
        omega (arith, l.place, h.headed.ends, ap (λ cs. length (segment_rows cs)) l.is, length-⊕ l.done l.rest),
      )

module _ {R R₁ : List Row} {K M : List ℕ} {r end kind left : ℕ} (fit : left ≤ length M) where
  pub concludes_none : {K₁ : List ℕ} → left ≡ 0 → Hollows R R₁ K₁ r end kind → Concludes R R₁ K K₁ M r end kind left
  unfolding unwrap
  concludes_none e f before x bs after l o k =
      replaced_as refl (ap (λ ts. unwrap o ts ▸ ∅) (sym (count_none (live bs) (left-count l fit ∙ e))))
      (f before x bs after l.headed o k)

  pub concludes_one : {p : ℕ} → left ≡ 1 → p ≡ row_of (get_or M 0 0) → R₁ ≡ set R r (row 0 (p - r)) → Concludes R R₁ K K M r end kind left
  unfolding unwrap
  concludes_one e is stored before x bs after l o k =
      let f = left_lone l fit e is in
      replaced_as stored (f.reads ∙ ap (λ ts. unwrap o ts ▸ ∅) (sym f.reads)) (lone_put l.headed K l.told f)

  pub concludes_many : {K₁ : List ℕ} {p : ℕ} → 1 < left → r < length K → R₁ ≡ set R r (row kind (end - r)) → p ≡ mixes kind (take left M)
      → K₁ ≡ set K r (known_of left p) → Concludes R R₁ K K₁ M r end kind left
  concludes_many {K₁} {p} m u stored p_is entry before x bs after l o k =
      let c = left-count l fit in
      replaced_as stored (unwrap_many o (live bs) (omega (arith, c, m)))
      (operator_put l.headed K₁ kind o k
      (entry_set K entry u ∙ ap₂ known_of (sym c) (p_is ∙ ap₂ mixes k l.noted ∙ mixes-hash o (r + 1) bs))
      (told_keeps K K₁ (r + 1) bs (λ j q. behind-set K _ entry j (omega (arith, q))) l.told))
