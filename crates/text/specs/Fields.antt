-- What the contracts of `field` cite. A place in a line is where a field starts. A reader answers a value and the next place,
-- or None where the field is not of its kind.
use Rattle.std.specs.Prelude.{ℕ, zero, suc, ◌+◌, ◌-◌, ◌*◌, ◌/◌, ◌%◌, ◌^◌, Bool, false, ◌&&◌, List, [], ◌∷◌, length, take, drop, ◌==◌, nat_le, nat_lt, slice_index}
use Rattle.octets.specs.Read.{choose}
use Rattle.octets.specs.Write.{put}
use Rattle.text.specs.Bytes.{index_of}
use Rattle.std.specs.Prelude.{None, Some}
use Rattle.std.specs.declared.option.Option.{Option}

-- so many bytes from a place on; none where there are fewer
unfoldable pub part_of : ℕ → ℕ → List ℕ → List ℕ
part_of from n s = choose (nat_le (from + n) (length s)) (take n (drop from s)) []

-- the place behind a field that ends at a place: at the line's end, or before a space
unfoldable pub behind_of : List ℕ → ℕ → Option ℕ
behind_of line end = choose (end == length line) (Some (end + 1)) (choose (slice_index line end == 32) (Some (end + 1)) None)

-- a value and the place behind its field
abbrev pub placed : {A : Type 0} → A → Option ℕ → Option (A × ℕ)
placed x None = None
placed x (Some next) = Some (x, next)

-- ---- hexadecimal digits: 0 to 9 and a to f
-- the value of a digit; 16 for any other byte
unfoldable pub nibble_of : ℕ → ℕ
nibble_of b = choose (nat_le 97 b && nat_le b 102) (b - 87) (choose (nat_le 48 b && nat_le b 57) (b - 48) 16)

-- how many of the bytes are no digits
unfoldable pub strays : List ℕ → ℕ
strays [] = 0
strays (b ∷ s) = nibble_of b / 16 + strays s

-- the number that digits say behind a number, its low 64 bits
unfoldable pub hex_of : ℕ → List ℕ → ℕ
hex_of v [] = v
hex_of v (b ∷ s) = hex_of (v % 2 ^ 60 * 16 + nibble_of b % 16) s

-- the number that digits say, and the place behind them
unfoldable pub hex_at : List ℕ → ℕ → Option (ℕ × ℕ)
hex_at s end = choose (strays s == 0) (Some (hex_of 0 s, end)) None

-- so many digits from a place on
unfoldable pub digits_at : List ℕ → ℕ → ℕ → Option (ℕ × ℕ)
digits_at line from n = choose (nat_le (from + n) (length line)) (hex_at (take n (drop from line)) (from + n)) None

-- the bytes of so many pairs of digits, and how many of those are no digits
unfoldable pub pairs_of : ℕ → List ℕ → List ℕ
pairs_of zero s = []
pairs_of (suc n) s = (nibble_of (slice_index s 0) % 16 * 16 + nibble_of (slice_index s 1) % 16) ∷ pairs_of n (drop 2 s)

unfoldable pub stray_pairs : ℕ → List ℕ → ℕ
stray_pairs zero s = 0
stray_pairs (suc n) s = nibble_of (slice_index s 0) / 16 + nibble_of (slice_index s 1) / 16 + stray_pairs n (drop 2 s)

-- ---- decimal digits
-- the number that digits say behind a number, and the place behind them; none where a byte is no digit or the number is over 64 bits
unfoldable pub decimal_of : ℕ → List ℕ → ℕ → Option (ℕ × ℕ)
decimal_of v [] end = Some (v, end)
decimal_of v (b ∷ s) end = choose (nat_le 48 b && nat_le b 57) (choose (nat_lt (v * 10 + (b - 48)) (2 ^ 64)) (decimal_of (v * 10 + (b - 48)) s end) None) None

-- ---- whole fields
-- where the field that starts at a place ends: before the next space, or with the line
unfoldable pub end_of : List ℕ → ℕ → ℕ
end_of line from = from + index_of 32 (drop from line)

-- a field of so many hexadecimal digits
abbrev pub closed : List ℕ → Option (ℕ × ℕ) → Option (ℕ × ℕ)
closed line None = None
closed line (Some p) = placed p.0 (behind_of line p.1)

unfoldable pub number_at : List ℕ → ℕ → ℕ → Option (ℕ × ℕ)
number_at line from n = closed line (digits_at line from n)

-- a field of decimal digits
unfoldable pub decimal_at : List ℕ → ℕ → Option (ℕ × ℕ)
decimal_at line from = choose (nat_lt from (end_of line from)) (decimal_of 0 (take (end_of line from - from) (drop from line)) (end_of line from + 1)) None

-- how many bytes a field of bytes holds: '-' none, pairs of digits one each
unfoldable pub count_of : List ℕ → ℕ → ℕ → Option ℕ
count_of line from end = choose (nat_lt from end) (choose ((end - from) % 2 == 0) (Some ((end - from) / 2)) (choose (end - from == 1) (choose (slice_index line from == 45) (Some 0) None) None)) None

-- a room after so many pairs were put to its front, if it and they are long enough; and whether it is so and all are digits
unfoldable pub pairs_in : ℕ → List ℕ → List ℕ → List ℕ
pairs_in n s room = choose (nat_le n (length room)) (choose (nat_le n (length s / 2)) (put 0 (pairs_of n s) room) room) room

unfoldable pub are_pairs : ℕ → List ℕ → List ℕ → Bool
are_pairs n s room = choose (nat_le n (length room)) (choose (nat_le n (length s / 2)) (stray_pairs n s == 0) false) false

-- a field of bytes from one place to another: the answer, and the room
abbrev pub bytes_of : List ℕ → ℕ → ℕ → List ℕ → Option ℕ → Option (ℕ × ℕ)
bytes_of line from end room None = None
bytes_of line from end room (Some n) = choose (are_pairs n (part_of from (n * 2) line) room) (placed n (behind_of line end)) None

unfoldable pub bytes_at : List ℕ → ℕ → ℕ → List ℕ → Option (ℕ × ℕ)
bytes_at line from end room = bytes_of line from end room (count_of line from end)

abbrev pub filled : List ℕ → ℕ → List ℕ → Option ℕ → List ℕ
filled line from room None = room
filled line from room (Some n) = pairs_in n (part_of from (n * 2) line) room

unfoldable pub room_after : List ℕ → ℕ → ℕ → List ℕ → List ℕ
room_after line from end room = filled line from room (count_of line from end)

-- ---- what a reader of `Fields` answers, and the place where it leaves off
abbrev pub read_of : {A : Type 0} → Option (A × ℕ) → Option A
read_of None = None
read_of (Some p) = Some p.0

abbrev pub place_of : {A : Type 0} → Option (A × ℕ) → ℕ → ℕ
place_of None at = at
place_of (Some p) at = p.1

-- one byte
abbrev pub letter_at : List ℕ → ℕ → Option (ℕ × ℕ)
letter_at line from = choose (nat_lt from (length line)) (Some (slice_index line from, from + 1)) None

-- a field as it stands
abbrev pub word_at : List ℕ → ℕ → Option (List ℕ × ℕ)
word_at line from = choose (nat_le from (length line)) (Some (take (end_of line from - from) (drop from line), end_of line from + 1)) None
