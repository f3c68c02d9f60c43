-- Records in arrays of numbers.
-- Assumes nothing.
use mathlib.Core.Path.{◌≡◌, refl, sym, ap, ap₂, ◌∙◌}
use mathlib.Core.List.{List, [], ◌∷◌, ◌++◌, map}
use Prim.Native.Nat.{ℕ, zero, suc, ◌+◌, ◌≤◌, ◌<◌, min}
use native.Mathlib.Nat.{zero-add, add-zero, add-suc}
use native.Mathlib.Omega.{arith}
use lib.ListN.{length, get_or, take, drop, set, length-map, take-append-drop, get_or-map}
use lib.Seq.{take_all, length-take-le, get_or-take, paste, paste-zero, paste-suc, length-paste}
use Rattle.sheet.specs.Format.{Bytes, Format}
use Rattle.sheet.specs.Check.{accepted}
use Rattle.sheet.specs.Steps.{settling, expanding, Step, filled, given, reached}
use Rattle.sheet.proofs.Steps.{length-filled}
use Rattle.step_list.specs.Numbers.{numbered_operation, numbered_answer, answer_number, answer_value, tabulate, record_count, record_at, numbered, step_number, step_value, over}
use Rattle.step_list.specs.Inner.Records.{step_of}
use Rattle.step_list.specs.declared.Step as struct
use Rattle.step_list.specs.declared.numbers.Part.{Part}
use Rattle.step_list.specs.Inner.Turns.{room}
use Rattle.step_list.specs.Inner.Parts.{none, Loaded, Parted, Stored}
use Rattle.step_list.proofs.Turning.{Going, going_first}
use Rattle.step_list.proofs.Parts.{reached_on, filled_on}

-- what is read behind the end
abbrev pub blank : Step
blank = record { operation = settling; variable = 0; answer = accepted 0 }

length-tabulate : (n : ℕ) (at : ℕ → Step) → length (tabulate n at) ≡ n
unfolding tabulate
length-tabulate zero at = refl
length-tabulate (suc n) at = ap suc (length-tabulate n (λ (i : ℕ). at (suc i)))

get_d_tabulate : (n : ℕ) (at : ℕ → Step) (i : ℕ) → i < n → get_or (tabulate n at) i blank ≡ at i
unfolding tabulate
get_d_tabulate zero at i l = absurd (omega arith)
get_d_tabulate (suc n) at zero l = refl
get_d_tabulate (suc n) at (suc i) l = get_d_tabulate n (λ (j : ℕ). at (suc j)) i (omega arith)

-- a part of the records is the front of its array
map-tabulate : (part : Step → ℕ) (n : ℕ) (at : ℕ → Step) (old : List ℕ) → n ≤ length old
    → ((i : ℕ) → part (at i) ≡ get_or old i 0) → map part (tabulate n at) ≡ take n old
unfolding tabulate
map-tabulate part zero at old l e = refl
map-tabulate part (suc n) at [] l e = absurd (omega arith)
map-tabulate part (suc n) at (x ∷ old) l e =
    ap₂ (λ (y : ℕ) (ys : List ℕ). y ∷ ys) (e 0) (map-tabulate part n (λ (i : ℕ). at (suc i)) old (omega arith) (λ (i : ℕ). e (suc i)))

-- an array in which the parts of i records are written, and then of n more
pub part_more : (part : Step → ℕ) → part blank ≡ 0 → (old : List ℕ) (steps more : List Step) (i n : ℕ) {now : List ℕ}
    → now ≡ paste old 0 (map part steps) i → i + n ≤ length old → i + n ≤ length steps → n ≤ length more
    → ((j : ℕ) → j < n → get_or more j blank ≡ get_or steps (i + j) blank)
    → paste now i (map part more) n ≡ paste old 0 (map part steps) (i + n)
part_more part zeros old steps more i zero {now} e lo ls lm same =
    sym (paste-zero now i (map part more)) ∙ e ∙ ap (paste old 0 (map part steps)) (sym (add-zero i))
part_more part zeros old steps more i (suc n) {now} e lo ls lm same =
    let long : length now ≡ length old
    = ap length e ∙ length-paste old 0 (map part steps) i (omega arith) (omega (arith, length-map steps part)) in
    let value : get_or (map part more) n 0 ≡ get_or (map part steps) (i + n) 0
    = ap (get_or (map part more) n) (sym zeros) ∙ get_or-map part more n blank ∙ ap part (same n (omega arith)) ∙
    sym (get_or-map part steps (i + n) blank) ∙ ap (get_or (map part steps) (i + n)) zeros in
    sym (paste-suc now i (map part more) n 0 (omega (arith, long)) (omega (arith, length-map more part))) ∙
    ap₂ (λ (q : List ℕ) (v : ℕ). set q (i + n) v)
    (part_more part zeros old steps more i n e (omega arith) (omega arith) (omega arith) (λ j l. same j (omega arith))) value ∙
    ap (λ (k : ℕ). set (paste old 0 (map part steps) (i + n)) k (get_or (map part steps) (i + n) 0)) (sym (zero-add (i + n))) ∙
    paste-suc old 0 (map part steps) (i + n) 0 (omega arith) (omega (arith, length-map steps part)) ∙
    ap (paste old 0 (map part steps)) (sym (add-suc i n))

pub part_all : (part : Step → ℕ) (old : List ℕ) (steps : List Step) {k : ℕ} → k ≡ length steps → paste old 0 (map part steps) k ≡ over part steps old
part_all part old steps {k} e =
    ap₂ (λ (p : List ℕ) (m : ℕ). p ++ drop m old) (take_all k (map part steps) (omega (arith, length-map steps part))) (zero-add k ∙ e)

module _ (operations variables numbers values : List ℕ) where
  abbrev count : ℕ
  count = record_count operations variables numbers values

  abbrev at : ℕ → Step
  at = record_at operations variables numbers values

  abbrev steps : List Step
  steps = numbered operations variables numbers values

  pub length-numbered : length steps ≡ count
  unfolding numbered
  length-numbered = length-tabulate count at

  pub numbered_at : (i : ℕ) → i < count → get_or steps i blank ≡ at i
  unfolding numbered
  numbered_at i l = get_d_tabulate count at i l

  back : (n v : ℕ) → (answer_number (numbered_answer n v) ≡ n) × (answer_value (numbered_answer n v) ≡ v)
  back zero v = (refl, refl)
  back (suc n) v = (refl, refl)

  unwritten : (part : Step → ℕ) (old : List ℕ) → count ≤ length old → ((i : ℕ) → part (at i) ≡ get_or old i 0) → over part steps old ≡ old
  unfolding numbered
  unwritten part old l e =
      ap₂ (λ (p : List ℕ) (m : ℕ). p ++ drop m old) (map-tabulate part count at old l e) (length-tabulate count at) ∙ take-append-drop count old

  -- records as they were leave both arrays
  pub numbers_stay : over step_number steps numbers ≡ numbers
  numbers_stay = unwritten step_number numbers (omega arith) (λ i. (back (get_or numbers i 0) (get_or values i 0)).0)

  pub values_stay : over step_value steps values ≡ values
  values_stay = unwritten step_value values (omega arith) (λ i. (back (get_or numbers i 0) (get_or values i 0)).1)

pub expands_else : (n : ℕ) → (n ≡ 0 → ⊥) → expanding ≡ numbered_operation n
expands_else zero h = absurd (h refl)
expands_else (suc n) h = refl

-- i turns are taken: the first i answers are written, and the buffers go with them
pub record Filled (F : Format) (operations variables numbers values first second : List ℕ) (held i : ℕ) (numbers' values' first' second' : List ℕ) (held' : ℕ) : Type 0 where
  pub going : Going F (room first second) (numbered operations variables numbers values) (take held first) i held' first' second'
  pub numbers_are : numbers'
      ≡ paste numbers 0 (map step_number (filled F (room first second) (numbered operations variables numbers values) (given (take held first)))) i
  pub values_are : values'
      ≡ paste values 0 (map step_value (filled F (room first second) (numbered operations variables numbers values) (given (take held first)))) i
  pub same_numbers : length numbers' ≡ length numbers
  pub same_values : length values' ≡ length values
  pub same_first : length first' ≡ length first
  pub same_second : length second' ≡ length second

module _ (F : Format) (operations variables numbers values first second : List ℕ) (held : ℕ) where
  abbrev all : List Step
  all = numbered operations variables numbers values

  abbrev done : List Step
  done = filled F (room first second) all (given (take held first))

  abbrev Turned : ℕ → List ℕ → List ℕ → List ℕ → List ℕ → ℕ → Type 0
  Turned = Filled F operations variables numbers values first second held

  pub turned_none : held ≤ room first second → Turned 0 numbers values first second held
  turned_none l =
      record {
        going = going_first F (room first second) all (take held first) refl l refl;
        numbers_are = paste-zero numbers 0 (map step_number done);
        values_are = paste-zero values 0 (map step_value done);
        same_numbers = refl;
        same_values = refl;
        same_first = refl;
        same_second = refl;
      }

  -- a part of n records from record i on
  module _ {i h n : ℕ} {numbers₁ values₁ first₁ second₁ : List ℕ} (g : Turned i numbers₁ values₁ first₁ second₁ h) (some : 0 < n) (few : n ≤ 64)
      (l : i + n ≤ record_count operations variables numbers values) (steps : List struct.Step) (loaded : Loaded operations variables i n steps)
      {p : Part} {first₂ : List ℕ} (parted : Parted F steps n h first₁ second₁ first₂ p) where
    abbrev b : Bytes
    b = take held first

    abbrev records : List Step
    records = map step_of (take n steps)

    size : length (take n steps) ≡ n
    size = length-take-le n steps (omega (arith, few, loaded.size))

    length-records : length records ≡ n
    length-records = length-map (take n steps) step_of ∙ size

    inside : i + n ≤ length all
    inside = omega (arith, l, length-numbered operations variables numbers values)

    record_is : (j : ℕ) → j < n → get_or records j blank ≡ step_of (get_or steps j none)
    record_is j k = get_or-map step_of (take n steps) j none ∙ ap step_of (get_or-take n steps j none k)

    there : (j : ℕ) → j < n → get_or all (i + j) blank ≡ record_at operations variables numbers values (i + j)
    there j k = numbered_at operations variables numbers values (i + j) (omega (arith, l, k))

    same_operation : (j : ℕ) → j < n → (get_or records j blank).operation ≡ (get_or all (i + j) blank).operation
    same_operation j k =
        ap (λ (r : Step). r.operation) (record_is j k) ∙ loaded.operations_are j k ∙ sym (ap (λ (r : Step). r.operation) (there j k))

    same_variable : (j : ℕ) → j < n → (get_or records j blank).variable ≡ (get_or all (i + j) blank).variable
    same_variable j k =
        ap (λ (r : Step). r.variable) (record_is j k) ∙ loaded.variables_are j k ∙ sym (ap (λ (r : Step). r.variable) (there j k))

    here : take h first₁ ≡ reached F (room first second) all b i
    here = g.going.sheet_held

    -- what the part's record j says is what the list's record i + j says
    answers : (j : ℕ) → j < n → get_or (map step_of p.steps) j blank ≡ get_or done (i + j) blank
    answers j k =
        get_or-map step_of p.steps j none ∙ ap step_of (sym (get_or-take n p.steps j none k)) ∙
        sym (get_or-map step_of (take n p.steps) j none) ∙ ap (λ (r : List Step). get_or r j blank) parted.follows.fills ∙
        ap₂ (λ (m : ℕ) (c : Bytes). get_or (filled F m records (given c)) j blank) g.going.same_room here ∙
        filled_on F (room first second) all b records i n blank length-records inside same_operation same_variable j k

    sheet-then : take p.held first₂ ≡ reached F (room first second) all b (i + n)
    sheet-then =
        parted.follows.sheet_held ∙ ap₂ (λ (m : ℕ) (c : Bytes). reached F m records c (length (take n steps))) g.going.same_room here ∙
        ap (reached F (room first second) records (reached F (room first second) all b i)) size ∙
        reached_on F (room first second) all b records i n blank length-records inside same_operation same_variable n (omega arith)

    done-long : length done ≡ length all
    done-long = length-filled F (room first second) all (given b)

    answered-long : length (map step_of p.steps) ≡ 64
    answered-long = length-map p.steps step_of ∙ parted.size

    stored_all : (part : Step → ℕ) → part blank ≡ 0 → (old : List ℕ) → i + n ≤ length old → {now now₂ : List ℕ} → now ≡ paste old 0 (map part done) i
        → now₂ ≡ paste now i (map part (map step_of p.steps)) n → now₂ ≡ paste old 0 (map part done) (i + n)
    stored_all part zeros old k e e₂ =
        e₂ ∙ part_more part zeros old done (map step_of p.steps) i n e k (omega (arith, inside, done-long)) (omega (arith, few, answered-long)) answers

    stored-long : (part : Step → ℕ) (now : List ℕ) → i + n ≤ length now → {now₂ : List ℕ} → now₂ ≡ paste now i (map part (map step_of p.steps)) n
        → length now₂ ≡ length now
    stored-long part now k e =
        ap length e ∙
        length-paste now i (map part (map step_of p.steps)) n k (omega (arith, few, answered-long, length-map (map step_of p.steps) part))

    pub turned-part : {second₂ numbers₂ values₂ : List ℕ} → length first₂ ≡ length first₁ → length second₂ ≡ length second₁
        → Stored p.steps n i numbers₁ values₁ numbers₂ values₂ → Turned (i + n) numbers₂ values₂ first₂ second₂ p.held
    turned-part l₁ l₂ stored =
        record {
          going =
              record {
                sheet_held = sheet-then;
                is_short = omega (arith, parted.follows.is_short, g.going.same_room);
                same_room = ap₂ (λ (k m : ℕ). min k m) l₁ l₂ ∙ g.going.same_room;
              };
          numbers_are = stored_all step_number refl numbers (omega (arith, l)) g.numbers_are stored.numbers_are;
          values_are = stored_all step_value refl values (omega (arith, l)) g.values_are stored.values_are;
          same_numbers = stored-long step_number numbers₁ (omega (arith, l, g.same_numbers)) stored.numbers_are ∙ g.same_numbers;
          same_values = stored-long step_value values₁ (omega (arith, l, g.same_values)) stored.values_are ∙ g.same_values;
          same_first = l₁ ∙ g.same_first;
          same_second = l₂ ∙ g.same_second;
        }
