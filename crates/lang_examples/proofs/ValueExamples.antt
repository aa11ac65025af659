-- The texts, order, lengths and widths of values.
use Rattle.std.specs.Prelude.{◌≡◌, pos, negsuc, true, false, [], ◌∷◌, codes}
use Rattle.std.specs.Fmt.{digits}
use Rattle.std.specs.declared.cmp.Ordering.TheVariants.{Less}
use Rattle.da_values.specs.declared.val.Val.TheVariants as val
use Rattle.da_values.specs.declared.value.Value.TheVariants as kept
use Rattle.da_values.specs.Lengths.{encoded_len}
use Rattle.da_values.specs.Narrow.{is_narrow}
use Rattle.da_values.specs.Order.{val_cmp}
use Rattle.da_values.specs.Text.{value_text}
use Rattle.da_values.proofs.OrderAt.{val_cmp_of}
use Rattle.da_lang.proofs.MatchingLaws.{matching}
use Rattle.lang_examples.proofs.ValueForms.{texts, lengths, narrowing, cmp-Int_Set, cmp-Text_Proc}

-- TEXTS

text_1 : value_text (val.Int (pos 0)) ≡ codes "0"
unfolding digits
text_1 = simp texts

text_2 : value_text (val.Int (negsuc 4)) ≡ codes "-5"
unfolding digits
text_2 = simp texts

text_3 : value_text (val.Int (negsuc 170141183460469231731687303715884105727)) ≡ codes "-170141183460469231731687303715884105728"
unfolding digits
text_3 = simp texts

text_4 : value_text (val.Int (pos 170141183460469231731687303715884105727)) ≡ codes "170141183460469231731687303715884105727"
unfolding digits
text_4 = simp texts

text_5 : value_text (val.Bool true) ≡ codes "true"
unfolding digits
text_5 = simp texts

text_6 : value_text (val.Bool false) ≡ codes "false"
unfolding digits
text_6 = simp texts

text_7 : value_text (val.Text []) ≡ codes "''"
unfolding digits
text_7 = simp texts

text_8 : value_text (val.Text (codes "a b")) ≡ codes "'a b'"
unfolding digits
text_8 = simp texts

text_9 : value_text (val.Text (codes "{1, 2}")) ≡ codes "'{1, 2}'"
unfolding digits
text_9 = simp texts

text_10 : value_text (val.Proc 3) ≡ codes "p3"
unfolding digits
text_10 = simp texts

text_11 : value_text (val.Proc 65535) ≡ codes "p65535"
unfolding digits
text_11 = simp texts

text_12 : value_text (val.Tuple []) ≡ codes "()"
unfolding digits
text_12 = simp texts

text_13 : value_text (val.Tuple (val.Int (pos 1) ∷ [])) ≡ codes "(1,)"
unfolding digits
text_13 = simp texts

text_14 : value_text (val.Tuple (val.Int (pos 1) ∷ val.Int (pos 2) ∷ [])) ≡ codes "(1, 2)"
unfolding digits
text_14 = simp texts

text_15 : value_text (val.Set []) ≡ codes "{}"
unfolding digits
text_15 = simp texts

text_16 : value_text (val.Set (val.Int (pos 1) ∷ val.Int (pos 2) ∷ [])) ≡ codes "{1, 2}"
unfolding digits
text_16 = simp texts

text_17 : value_text (val.Set (val.Bool false ∷ val.Text (codes "x") ∷ val.Proc 1 ∷ val.Tuple [] ∷ val.Set [] ∷ [])) ≡ codes "{false, 'x', p1, (), {}}"
unfolding digits
text_17 = simp texts

text_18 : value_text (val.Tuple (val.Text (codes "ack") ∷ val.Tuple (val.Int (pos 1) ∷ val.Set (val.Proc 1 ∷ val.Proc 2 ∷ []) ∷ []) ∷ val.Set (val.Tuple (val.Int (pos 1) ∷ []) ∷ val.Tuple (val.Int (pos 1) ∷ val.Int (pos 1) ∷ []) ∷ []) ∷ [])) ≡ codes "('ack', (1, {p1, p2}), {(1,), (1, 1)})"
unfolding digits
text_18 = simp texts

-- THE ORDER: of kinds, and within each kind

order_1 : val_cmp (val.Int (negsuc 0)) (val.Int (pos 0)) ≡ Less
order_1 = simp matching

order_2 : val_cmp (val.Int (pos 0)) (val.Int (pos 2)) ≡ Less
order_2 = simp matching

order_3 : val_cmp (val.Int (pos 2)) (val.Int (pos 10)) ≡ Less
order_3 = simp matching

order_4 : val_cmp (val.Int (pos 10)) (val.Bool false) ≡ Less
order_4 = val_cmp_of (kept.Int (pos 10)) (kept.Bool false)

order_5 : val_cmp (val.Bool false) (val.Bool true) ≡ Less
order_5 = simp matching

order_6 : val_cmp (val.Bool true) (val.Text []) ≡ Less
order_6 = val_cmp_of (kept.Bool true) (kept.Text [])

order_7 : val_cmp (val.Text []) (val.Text (codes "Z")) ≡ Less
order_7 = simp matching

order_8 : val_cmp (val.Text (codes "Z")) (val.Text (codes "a")) ≡ Less
order_8 = simp matching

order_9 : val_cmp (val.Text (codes "a")) (val.Text (codes "a b")) ≡ Less
order_9 = simp matching

order_10 : val_cmp (val.Text (codes "a b")) (val.Text (codes "ab")) ≡ Less
order_10 = simp matching

order_11 : val_cmp (val.Text (codes "ab")) (val.Proc 2) ≡ Less
order_11 = val_cmp_of (kept.Text (codes "ab")) (kept.Proc 2)

order_12 : val_cmp (val.Proc 2) (val.Proc 10) ≡ Less
order_12 = simp matching

order_13 : val_cmp (val.Proc 10) (val.Tuple []) ≡ Less
order_13 = val_cmp_of (kept.Proc 10) (kept.Tuple [])

order_14 : val_cmp (val.Tuple []) (val.Tuple (val.Int (pos 1) ∷ [])) ≡ Less
order_14 = simp matching

order_15 : val_cmp (val.Tuple (val.Int (pos 1) ∷ [])) (val.Tuple (val.Int (pos 1) ∷ val.Text (codes "a") ∷ [])) ≡ Less
order_15 = simp matching

order_16 : val_cmp (val.Tuple (val.Int (pos 1) ∷ val.Text (codes "a") ∷ [])) (val.Tuple (val.Int (pos 1) ∷ val.Proc 1 ∷ [])) ≡ Less
order_16 = simp (matching, cmp-Text_Proc)

order_17 : val_cmp (val.Tuple (val.Int (pos 1) ∷ val.Proc 1 ∷ [])) (val.Tuple (val.Int (pos 2) ∷ [])) ≡ Less
order_17 = simp matching

order_18 : val_cmp (val.Tuple (val.Int (pos 2) ∷ [])) (val.Set []) ≡ Less
order_18 = val_cmp_of (kept.Tuple (val.Int (pos 2) ∷ [])) (kept.Set [])

order_19 : val_cmp (val.Set []) (val.Set (val.Int (pos 1) ∷ [])) ≡ Less
order_19 = simp matching

order_20 : val_cmp (val.Set (val.Int (pos 1) ∷ [])) (val.Set (val.Int (pos 1) ∷ val.Int (pos 2) ∷ [])) ≡ Less
order_20 = simp matching

order_21 : val_cmp (val.Set (val.Int (pos 1) ∷ val.Int (pos 2) ∷ [])) (val.Set (val.Int (pos 2) ∷ [])) ≡ Less
order_21 = simp matching

order_22 : val_cmp (val.Set (val.Int (pos 2) ∷ [])) (val.Set (val.Set [] ∷ [])) ≡ Less
order_22 = simp (matching, cmp-Int_Set)

-- HOW MANY BYTES A VALUE TAKES IN A PACKET

length_1 : encoded_len (val.Int (pos 5)) ≡ 9
length_1 = simp lengths

length_2 : encoded_len (val.Bool true) ≡ 2
length_2 = simp lengths

length_3 : encoded_len (val.Text (codes "ping")) ≡ 7
length_3 = simp lengths

length_4 : encoded_len (val.Proc 1) ≡ 3
length_4 = simp lengths

length_5 : encoded_len (val.Tuple (val.Text (codes "ping") ∷ val.Int (pos 5) ∷ [])) ≡ 18
length_5 = simp lengths

length_6 : encoded_len (val.Set (val.Int (pos 1) ∷ val.Int (pos 2) ∷ [])) ≡ 23
length_6 = simp lengths

length_7 : encoded_len (val.Tuple []) ≡ 2
length_7 = simp lengths

-- INTEGERS OF 64 BITS, AND OTHERS

narrow_1 : is_narrow (val.Int (pos 9223372036854775807)) ≡ true
narrow_1 = simp narrowing

narrow_2 : is_narrow (val.Int (negsuc 9223372036854775807)) ≡ true
narrow_2 = simp narrowing

narrow_3 : is_narrow (val.Int (pos 9223372036854775808)) ≡ false
narrow_3 = simp narrowing

narrow_4 : is_narrow (val.Int (negsuc 9223372036854775808)) ≡ false
narrow_4 = simp narrowing

narrow_5 : is_narrow (val.Tuple (val.Int (pos 1) ∷ val.Set (val.Tuple (val.Int (pos 9223372036854775808) ∷ []) ∷ []) ∷ [])) ≡ false
narrow_5 = simp narrowing
