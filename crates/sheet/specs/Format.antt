-- The sheet's sizes, numbers and rows ("The sheet"), over the width of a number and the limits.
-- Assumes nothing.
use Rattle.std.specs.Prelude.{Bool, ◌&&◌, cond, List, [], ◌∷◌, ℕ, zero, suc, ◌+◌, ◌*◌, ◌/◌, ◌%◌, ◌<◌, leb, take, drop}

abbrev pub Bytes : Type 0
Bytes = List ℕ

-- the bytes of a call are numbers below 256
abbrev pub Every : {A : Type 0} → (A → Type 0) → List A → Type 0
Every P [] = Unit {0}
Every P (x ∷ xs) = P x × Every P xs

abbrev pub IsByte : ℕ → Type 0
IsByte b = b < 256

abbrev pub AllBytes : Bytes → Type 0
AllBytes = Every IsByte

-- bytes to a number, most variables (and the highest variable number), most nodes
pub record Format : Type 0 where
  pub width : ℕ
  pub most_variables : ℕ
  pub most_nodes : ℕ

-- document 01's own sheets: 16 bits, 256 variables, 4,096 nodes
abbrev pub narrow : Format
narrow = record { width = 2; most_variables = 256; most_nodes = 4096 }

-- wider sheets (N11): 32 bits, 1,024 variables, 8,192 nodes
abbrev pub wide : Format
wide = record { width = 4; most_variables = 1024; most_nodes = 8192 }

-- the two sizes stand first
abbrev pub header : Format → ℕ
header F = 2 * F.width

-- 4 + 3 times (V+N), wide 8 + 5 times (V+N)
unfoldable pub sheet_length : Format → ℕ → ℕ → ℕ
sheet_length F v n = header F + (1 + F.width) * (v + n)

-- a sheet of v variables and n nodes fits: its nodes are within the format's limit, its length within the output's
unfoldable pub fits : Format → ℕ → ℕ → ℕ → Bool
fits F length v n = leb n F.most_nodes && leb (sheet_length F v n) length

-- a number, low byte first, and back
unfoldable pub number : Bytes → ℕ
number [] = 0
number (b ∷ bs) = b + 256 * number bs

unfoldable pub digits : ℕ → ℕ → Bytes
digits zero n = []
digits (suc w) n = n % 256 ∷ digits w (n / 256)

-- V and N
unfoldable pub variables : Format → Bytes → ℕ
variables F b = number (take F.width b)

unfoldable pub nodes : Format → Bytes → ℕ
nodes F b = number (take F.width (drop F.width b))

-- a row: its kind byte and its argument
pub record Row : Type 0 where
  pub kind : ℕ
  pub argument : ℕ

abbrev pub row : ℕ → ℕ → Row
row k a = record { kind = k; argument = a }

-- V+N kind bytes, then V+N arguments
unfoldable pub kind_bytes : Format → Bytes → Bytes
kind_bytes F b = take (variables F b + nodes F b) (drop (header F) b)

unfoldable pub argument_bytes : Format → Bytes → Bytes
argument_bytes F b = drop (header F + (variables F b + nodes F b)) b

unfoldable pub zip_rows : ℕ → Bytes → Bytes → List Row
zip_rows w [] ds = []
zip_rows w (k ∷ ks) ds = row k (number (take w ds)) ∷ zip_rows w ks (drop w ds)

unfoldable pub all_rows : Format → Bytes → List Row
all_rows F b = zip_rows F.width (kind_bytes F b) (argument_bytes F b)

-- the first V rows are quantifiers, the N node rows follow
unfoldable pub prefix_rows : Format → Bytes → List Row
prefix_rows F b = take (variables F b) (all_rows F b)

unfoldable pub node_rows : Format → Bytes → List Row
node_rows F b = drop (variables F b) (all_rows F b)

-- how many children a row adds: the argument of an operator (kinds 5 AND and 6 OR), none for a literal
unfoldable pub children : Row → ℕ
children r = cond (leb r.kind 4) 0 r.argument
