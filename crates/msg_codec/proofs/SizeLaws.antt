-- How many bytes a value and a packet take.
use Rattle.std.specs.Prelude.{◌≡◌, ℕ, ◌+◌, List, [], ◌∷◌, length, map, sum, refl}
use Rattle.std.specs.List.{AllByRecursion}
use Rattle.std.proofs.Common.{◌∙◌, ap, sym, arith, length-append}
use Rattle.std.proofs.lemmas.List.Sums.{sum_by-cons}
use Rattle.da_values.specs.declared.val.Val.{Val}
use Rattle.da_values.specs.declared.value.Value.TheVariants as kept
use Rattle.da_values.specs.Lengths.{encoded_len}
use Rattle.da_values.proofs.FoldsAt.{encoded_len_of}
use Rattle.da_values.proofs.Induction.{val_induction}
use Rattle.msg_codec.specs.Packets.{joined, packet_bytes, value_bytes}
use Rattle.msg_codec.proofs.BytesAt.{value_bytes_of}

abbrev IsSized : Val → Type 0
IsSized x = length (value_bytes x) ≡ encoded_len x

sizes_joined : (xs : List Val) → AllByRecursion IsSized xs → length (joined (map value_bytes xs)) ≡ sum (map encoded_len xs)
sizes_joined [] each = refl
sizes_joined (x ∷ xs) (here, each) =
    let total : sum (map encoded_len (x ∷ xs)) ≡ encoded_len x + sum (map encoded_len xs) = sum_by-cons (λ n. n) (encoded_len x) (map encoded_len xs) in
    let size : length (value_bytes x) ≡ encoded_len x = here in
    omega (arith, length-append (value_bytes x) (joined (map value_bytes xs)), size, total, sizes_joined xs each)

pub value_size : (x : Val) → length (value_bytes x) ≡ encoded_len x
value_size =
    val_induction IsSized
    (λ number. ap length (value_bytes_of (kept.Int number)) ∙ sym (encoded_len_of (kept.Int number)))
    (λ truth. ap length (value_bytes_of (kept.Bool truth)) ∙ sym (encoded_len_of (kept.Bool truth)))
    (λ text. omega (arith, ap length (value_bytes_of (kept.Text text)), encoded_len_of (kept.Text text)))
    (λ process. ap length (value_bytes_of (kept.Proc process)) ∙ sym (encoded_len_of (kept.Proc process)))
    (λ parts each. omega (arith, ap length (value_bytes_of (kept.Tuple parts)), encoded_len_of (kept.Tuple parts), sizes_joined parts each))
    (λ elements each. omega (arith, ap length (value_bytes_of (kept.Set elements)), encoded_len_of (kept.Set elements), sizes_joined elements each))

pub packet_size : (sender clock : ℕ) (v : Val) → length (packet_bytes sender clock v) ≡ 13 + encoded_len v
packet_size sender clock v = omega (arith, value_size v)
