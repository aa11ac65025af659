-- The bytes of a packet: a message with its sender and its time, as one process hands it to another.
use Rattle.std.specs.Prelude.{◌≡◌, ℕ, ◌^◌, ◌<◌, ◌≤◌, ◌&&◌, nat_le, Bool, true, false, IsTrue, List, [], ◌∷◌, ◌++◌, codes, length}
use Rattle.std.specs.Int.{w16, w32, w64, cast_unsigned, to_be_bytes}
use Rattle.std.specs.List.{flat_map, list_all}
use Rattle.da_values.specs.declared.val.Val.{Val}
use Rattle.da_values.specs.declared.val.Val.TheOpen.{Val-F, Int, Bool as Truth, Text, Proc, Tuple, Set}
use Rattle.da_values.specs.declared.val.Val.TheFolds.{fold-Val}
use Rattle.da_values.specs.Narrow.{is_narrow}
use Rattle.da_values.specs.Nesting.{nesting}
use Rattle.da_values.specs.Proper.{IsValue}

-- BYTES

abbrev pub truth_byte : Bool → ℕ
truth_byte false = 0
truth_byte true = 1

-- one after the other
abbrev pub joined : List (List ℕ) → List ℕ
joined pieces = flat_map (λ piece. piece) pieces

-- A letter tells the kind. Numbers begin with their greatest byte; a negative integer has its two's complement.
abbrev pub bytes_step : Val-F (List ℕ) → List ℕ
bytes_step (Int number) = codes "i" ++ to_be_bytes w64 (cast_unsigned w64 number)
bytes_step (Truth truth) = codes "b" ++ truth_byte truth ∷ []
bytes_step (Text text) = codes "s" ++ to_be_bytes w16 (length text) ++ text
bytes_step (Proc process) = codes "p" ++ to_be_bytes w16 process
bytes_step (Tuple parts) = codes "t" ++ length parts ∷ joined parts
bytes_step (Set elements) = codes "S" ++ to_be_bytes w32 (length elements) ++ joined elements

abbrev pub value_bytes : Val → List ℕ
value_bytes = fold-Val (List ℕ) bytes_step

-- the bytes 44, 41, 01 in hexadecimal
abbrev pub mark : List ℕ
mark = 68 ∷ 65 ∷ 1 ∷ []

abbrev pub packet_bytes : ℕ → ℕ → Val → List ℕ
packet_bytes sender clock v = mark ++ to_be_bytes w16 sender ++ to_be_bytes w64 clock ++ value_bytes v

-- WHICH MESSAGES HAVE A PACKET

abbrev pub few_step : Val-F Bool → Bool
few_step (Tuple parts) = nat_le (length parts) 255 && list_all (λ part. part) parts
few_step (Set elements) = list_all (λ element. element) elements
few_step _ = true

-- whether each tuple in a value has at most 255 parts
abbrev pub has_few_parts : Val → Bool
has_few_parts = fold-Val Bool few_step

-- These bytes are the packet of a message: of a value whose texts are texts, whose sets ascend and whose processes have
-- a number, whose integers lie in 64 bits, whose tuples have at most 255 parts, and in which at most 32 tuples and sets
-- stand in one another.
pub record IsPacket (sender clock : ℕ) (v : Val) (bytes : List ℕ) : Type 0 where
  pub sender_fits : sender < 2 ^ 16
  pub clock_fits : clock < 2 ^ 63
  pub proper : IsValue v
  pub narrow : IsTrue (is_narrow v)
  pub few_parts : IsTrue (has_few_parts v)
  pub nested : nesting v ≤ 32
  pub small : length bytes ≤ 60000
  pub is : bytes ≡ packet_bytes sender clock v
