-- Taking a packed answer apart gives it back, where its values are in their ranges.
-- Assumes nothing.
use mathlib.Core.Path.{◌≡◌, refl, ap, ap₂, ◌∙◌}
use mathlib.Core.Bool.{Bool, true, false, cond}
use Prim.Native.Nat.{ℕ, ◌+◌, ◌*◌, ◌/◌, ◌%◌, ◌^◌, ◌≤◌, ◌<◌}
use native.Mathlib.Omega.{arith}
use lib.Dec.{eqb}
use borrow.Author.Tests.{eq-eqb, ne_eqb}
use Rattle.formula.specs.Tree.{Quantifier, and, or}
use Rattle.formula.specs.Trial.{Tried}
use Rattle.formula.specs.Force.{Forced, neither, with-0, with-1, both, stopped_at}
use Rattle.formula.specs.Order.{Ordering, before, same, after}
use Rattle.sheet.specs.Sheet.{quantifier_kind}
use Rattle.sheet.specs.Check.{Answer, refused, accepted, Sizes}
use Rattle.sheet.specs.Operations.{Solved, is_refused, is_stopped, is_ended}
use Rattle.sheet.specs.Outer.{Copied}
use Rattle.sheet.specs.Force.{Panel}
use Rattle.sheet.specs.Guards.{Guards, guards_refused, guards_stopped, guards_true, guards_kept}
use Rattle.sheet.specs.Order as order
use Rattle.sheet.specs.Order.{Compared, is_ordered}
use Rattle.packing.specs.Packed.{packed, packed_check, verdict_word, packed_trial, packed_written, packed_quote, packed_solved, packed_guards}
use Rattle.packing.specs.Panel.{packed_outcome, packed_forced}
use Rattle.packing.specs.Order.{order_word, packed_compared}
use Rattle.packing.specs.Copies.{packed_copied}
use Rattle.packing.specs.Unpacked.{number_of, word_of, low_of, high_of, unpacked, unpacked_check, unpacked_trial, unpacked_written}
use Rattle.packing.specs.Unpacked.{unpacked_copied, unpacked_solved, unpacked_guards, turn_of, outcome_of, unpacked_forced, unpacked_compared}
use Rattle.packing.specs.Unpacked.{Tellable, FitsWritten, FitsCheck, FitsTrial, FitsCopied, FitsSolved, FitsGuards, FitsOutcome, FitsForced, FitsCompared}

-- each value has its place
pub record Places (number word low high : ℕ) : Type 0 where
  pub small_number : number < 256
  pub small_word : word < 256
  pub small_low : low < 65536
  pub small_high : high < 4294967296

module _ (a b c d : ℕ) (p : Places a b c d) where
  pub number_back : number_of (packed a b c d) ≡ a
  number_back = omega (arith, p.small_number)

  pub word_back : word_of (packed a b c d) ≡ b
  word_back = omega (arith, p.small_number, p.small_word)

  pub low_back : low_of (packed a b c d) ≡ c
  low_back = omega (arith, p.small_number, p.small_word, p.small_low)

  pub high_back : high_of (packed a b c d) ≡ d
  high_back = omega (arith, p.small_number, p.small_word, p.small_low, p.small_high)

-- a refusal, and what is accepted

pub refused_places : {n i : ℕ} (w : ℕ) → w < 256 → Tellable n i → Places n w i 0
refused_places w l t = record { small_number = t.small_number; small_word = l; small_low = t.small_place; small_high = omega arith }

pub not_accepted : {n i : ℕ} (w : ℕ) → w < 256 → Tellable n i → eqb (number_of (packed n w i 0)) 0 ≡ false
not_accepted {n} {i} w l t =
    ne_eqb (number_of (packed n w i 0)) 0 (λ z. omega (arith, z, number_back n w i 0 (refused_places w l t), t.is_number))

pub unpack_refused : {A : Type 0} (a : A) {n i : ℕ} → Tellable n i → unpacked (packed n 0 i 0) a ≡ refused n i
unpack_refused a {n} {i} t =
    let p = refused_places 0 (omega arith) t in
    ap (λ m. cond m (accepted a) (refused (number_of (packed n 0 i 0)) (low_of (packed n 0 i 0)))) (not_accepted 0 (omega arith) t) ∙
    ap₂ refused (number_back n 0 i 0 p) (low_back n 0 i 0 p)

pub places : (w l h : ℕ) → w < 256 → l < 65536 → h < 4294967296 → Places 0 w l h
places w l h a b c = record { small_number = omega arith; small_word = a; small_low = b; small_high = c }

pub is_accepted : {w l h : ℕ} → Places 0 w l h → eqb (number_of (packed 0 w l h)) 0 ≡ true
is_accepted {w} {l} {h} p = eq-eqb (number_of (packed 0 w l h)) 0 (number_back 0 w l h p)

pub unpack_accepted : {A : Type 0} {a a' : A} {w l h : ℕ} → Places 0 w l h → a ≡ a' → unpacked (packed 0 w l h) a ≡ accepted a'
unpack_accepted {a = a} {w = w} {l} {h} p e =
    ap (λ m. cond m (accepted a) (refused (number_of (packed 0 w l h)) (low_of (packed 0 w l h)))) (is_accepted p) ∙ ap accepted e

pub unpack_written : (a : Answer ℕ) → FitsWritten a → unpacked_written (packed_written a) ≡ a
unfolding packed_written
unpack_written (refused number place) t = unpack_refused _ t
unpack_written (accepted n) l =
    let p = places 0 0 n (omega arith) (omega arith) l in
    unpack_accepted p (high_back 0 0 0 n p)

pub unpack_quote : (a : Answer ℕ) → FitsWritten a → unpacked_written (packed_quote a) ≡ a
unfolding packed_quote
unpack_quote (refused number place) t = unpack_refused _ t
unpack_quote (accepted n) l =
    let p = places 0 0 n (omega arith) (omega arith) l in
    unpack_accepted p (high_back 0 0 0 n p)

pub unpack_check : (a : Answer Sizes) → FitsCheck a → unpacked_check (packed_check a) ≡ a
unfolding packed_check
unpack_check (refused number place) t = unpack_refused _ t
unpack_check (accepted s) l =
    let p = places 0 s.variables s.nodes (omega arith) l.0 l.1 in
    unpack_accepted p
    (ap₂ (λ v n. record { variables = v; nodes = n }) (low_back 0 0 s.variables s.nodes p) (high_back 0 0 s.variables s.nodes p))

-- a verdict's word, and back
word_small : (v : Bool) → verdict_word v < 256
word_small true = omega arith
word_small false = omega arith

word_verdict : (v : Bool) → eqb (verdict_word v) 1 ≡ v
word_verdict true = refl
word_verdict false = refl

word_ended : (v : Bool) → eqb (verdict_word v) 2 ≡ false
word_ended true = refl
word_ended false = refl

pub unpack_trial : (a : Answer Tried) → FitsTrial a → unpacked_trial (packed_trial a) ≡ a
unfolding packed_trial
unpack_trial (refused number place) t = unpack_refused _ t
unpack_trial (accepted r) l =
    let w = verdict_word r.verdict in
    let p = places w 0 r.leaves (word_small r.verdict) (omega arith) l in
    unpack_accepted p
    (ap₂ (λ v n. record { verdict = v; leaves = n }) (ap (λ k. eqb k 1) (word_back 0 w 0 r.leaves p) ∙ word_verdict r.verdict) (high_back 0 w 0 r.leaves p))

-- two values of 16 bits in one of 32
both_small : {a b : ℕ} → a < 65536 → b < 65536 → a % 65536 + 65536 * (b % 65536) < 4294967296
both_small l m = omega (arith, l, m)

pub unpack_copied : (a : Answer Copied) → FitsCopied a → unpacked_copied (packed_copied a) ≡ a
unfolding packed_copied
unpack_copied (refused number place) t = unpack_refused _ t
unpack_copied (accepted c) l =
    let h = c.copied % 65536 + 65536 * (c.lowest % 65536) in
    let p = places 0 c.new_length h (omega arith) l.0 (both_small l.1 l.2) in
    let back = high_back 0 0 c.new_length h p in
    unpack_accepted p
    (ap₂ (λ n (k : ℕ). record { new_length = n; copied = k % 65536; lowest = k / 65536 }) (low_back 0 0 c.new_length h p) back ∙
    ap₂ (λ k m. record { new_length = c.new_length; copied = k; lowest = m }) (omega (arith, l.1)) (omega (arith, l.1, l.2)))

-- Solve's three kinds of answers, and so Guards'

counts_high : {x n : ℕ} → n < 65536 → x < 65536 → ((n % 65536 + 65536 * (x % 65536)) % 65536 ≡ n) × ((n % 65536 + 65536 * (x % 65536)) / 65536 ≡ x)
counts_high l m = (omega (arith, l), omega (arith, l, m))

count_high : {n : ℕ} → n < 65536 → (n % 65536 < 4294967296) × (n % 65536 % 65536 ≡ n)
count_high l = (omega (arith, l), omega (arith, l))

pub unpack_solved : (a : Solved) → FitsSolved a → unpacked_solved (packed_solved a) ≡ a
unfolding packed_solved
unpack_solved (is_refused number place) t =
    let p = refused_places 0 (omega arith) t in
    rw (not_accepted 0 (omega arith) t) (ap₂ is_refused (number_back number 0 place 0 p) (low_back number 0 place 0 p))
unpack_solved (is_stopped x settled expanded) l =
    let h = expanded % 65536 + 65536 * (x % 65536) in
    let p = places 2 settled h (omega arith) l.small_settled (both_small l.small_expanded l.small_variable) in
    let two = counts_high l.small_expanded l.small_variable in
    let back = high_back 0 2 settled h p in
    rw (is_accepted p, eq-eqb (word_of (packed 0 2 settled h)) 2 (word_back 0 2 settled h p))
    (ap₂ (λ k (s : ℕ). is_stopped (k / 65536) s (k % 65536)) back (low_back 0 2 settled h p) ∙ ap₂ (λ y e. is_stopped y settled e) two.1 two.0)
unpack_solved (is_ended v settled expanded) l =
    let w = verdict_word v in
    let one = count_high l.small_expanded in
    let p = places w settled (expanded % 65536) (word_small v) l.small_settled one.0 in
    let said = word_back 0 w settled (expanded % 65536) p in
    rw (is_accepted p, ap (λ k. eqb k 2) said ∙ word_ended v)
    (ap₂ (λ u (s : ℕ). is_ended u s (high_of (packed 0 w settled (expanded % 65536)) % 65536)) (ap (λ k. eqb k 1) said ∙ word_verdict v)
    (low_back 0 w settled (expanded % 65536) p) ∙
    ap (is_ended v settled) (ap (λ k. k % 65536) (high_back 0 w settled (expanded % 65536) p) ∙ one.1))

pub unpack_guards : (a : Guards) → FitsGuards a → unpacked_guards (packed_guards a) ≡ a
unfolding packed_guards
unpack_guards (guards_refused number place) t =
    let p = refused_places 0 (omega arith) t in
    rw (not_accepted 0 (omega arith) t) (ap₂ guards_refused (number_back number 0 place 0 p) (low_back number 0 place 0 p))
unpack_guards (guards_stopped x settled expanded) l =
    let h = expanded % 65536 + 65536 * (x % 65536) in
    let p = places 2 settled h (omega arith) l.small_settled (both_small l.small_expanded l.small_variable) in
    let two = counts_high l.small_expanded l.small_variable in
    rw (is_accepted p, eq-eqb (word_of (packed 0 2 settled h)) 2 (word_back 0 2 settled h p))
    (ap₂ (λ k (s : ℕ). guards_stopped (k / 65536) s (k % 65536)) (high_back 0 2 settled h p) (low_back 0 2 settled h p) ∙
    ap₂ (λ y e. guards_stopped y settled e) two.1 two.0)
unpack_guards (guards_true settled expanded) l =
    let one = count_high l.small_expanded in
    let p = places 1 settled (expanded % 65536) (omega arith) l.small_settled one.0 in
    let said = word_back 0 1 settled (expanded % 65536) p in
    rw (is_accepted p, ap (λ k. eqb k 2) said, ap (λ k. eqb k 1) said)
    (ap₂ (λ (s k : ℕ). guards_true s (k % 65536)) (low_back 0 1 settled (expanded % 65536) p) (high_back 0 1 settled (expanded % 65536) p) ∙
    ap (guards_true settled) one.1)
unpack_guards (guards_kept length stops) l =
    let p = places 0 stops length (omega arith) l.1 l.0 in
    let said = word_back 0 0 stops length p in
    rw (is_accepted p, ap (λ k. eqb k 2) said, ap (λ k. eqb k 1) said)
    (ap₂ guards_kept (high_back 0 0 stops length p) (low_back 0 0 stops length p))

pub unpack_compared : (a : Compared) → FitsCompared a → unpacked_compared (packed_compared a) ≡ a
unfolding packed_compared
unpack_compared (order.is_refused which number place) t =
    let p = refused_places which t.0 t.1 in
    rw (not_accepted which t.0 t.1)
    (ap₂ (λ w n. order.is_refused w n (low_of (packed number which place 0))) (word_back number which place 0 p) (number_back number which place 0 p) ∙
    ap (order.is_refused which number) (low_back number which place 0 p))
unpack_compared (is_ordered o) t = by o
  where
    by : (o : Ordering) → unpacked_compared (packed 0 (order_word o) 0 0) ≡ is_ordered o
    by before = refl
    by same = refl
    by after = refl

-- Force

turn_back : (q : Quantifier) → (quantifier_kind q < 65536) × (turn_of (quantifier_kind q) ≡ q)
turn_back or = (omega arith, refl)
turn_back and = (omega arith, refl)

unpack_panel : (q : Quantifier) (w x : ℕ) (o : Forced) → w < 256 → x < 4294967296 → outcome_of w x ≡ o
    → unpacked_forced (packed 0 w (quantifier_kind q) x) ≡ accepted (record { turn = q; outcome = o })
unpack_panel q w x o l m e =
    let turn = turn_back q in
    let p = places w (quantifier_kind q) x l turn.0 m in
    let back = ap₂ outcome_of (word_back 0 w (quantifier_kind q) x p) (high_back 0 w (quantifier_kind q) x p) ∙ e in
    unpack_accepted p
    (ap₂ (λ (t : Quantifier) (f : Forced). record { turn = t; outcome = f }) (ap turn_of (low_back 0 w (quantifier_kind q) x p) ∙ turn.1) back)

pub unpack_forced : (a : Answer Panel) → FitsForced a → unpacked_forced (packed_forced a) ≡ a
unfolding packed_forced packed_outcome
unpack_forced (refused number place) t = unpack_refused _ t
unpack_forced (accepted a) l = by a.outcome l
  where
    by : (o : Forced) → FitsOutcome o → unpacked_forced (packed_outcome (quantifier_kind a.turn) o) ≡ accepted (record { turn = a.turn; outcome = o })
    by neither l = unpack_panel a.turn 0 0 neither (omega arith) (omega arith) refl
    by with-0 l = unpack_panel a.turn 1 0 with-0 (omega arith) (omega arith) refl
    by with-1 l = unpack_panel a.turn 2 0 with-1 (omega arith) (omega arith) refl
    by both l = unpack_panel a.turn 3 0 both (omega arith) (omega arith) refl
    by (stopped_at x) l = unpack_panel a.turn 4 x (stopped_at x) (omega arith) l refl
