-- What definitions by recursion give at a value, one equation for each form.
use Rattle.std.specs.Prelude.{◌≡◌, ◌&&◌, ℕ, ℤ, ◌+◌, Bool, true, false, List, ◌++◌, map, length, sum, codes, decimal}
use Rattle.std.specs.Fmt.{signed_decimal}
use Rattle.std.specs.List.{list_all}
use Rattle.std.specs.declared.cmp.Ordering.TheVariants.{Less, Greater}
use Rattle.da_values.specs.declared.val.Val.{Val}
use Rattle.da_values.specs.declared.val.Val.TheVariants as val
use Rattle.da_values.specs.declared.value.Value.TheVariants as kept
use Rattle.da_values.specs.Layer.{fold-val_of}
use Rattle.da_values.specs.Lengths.{encoded_len, length_step}
use Rattle.da_values.specs.Narrow.{is_i64, is_narrow, narrow_step}
use Rattle.da_values.specs.Order.{val_cmp}
use Rattle.da_values.specs.Text.{closing, separated, text_step, value_text}
use Rattle.da_values.proofs.OrderAt.{val_cmp_of}

pub text-Int : (n : ℤ) → value_text (val.Int n) ≡ signed_decimal n
text-Int n = fold-val_of (List ℕ) text_step (kept.Int n)

pub text-true : value_text (val.Bool true) ≡ codes "true"
text-true = fold-val_of (List ℕ) text_step (kept.Bool true)

pub text-false : value_text (val.Bool false) ≡ codes "false"
text-false = fold-val_of (List ℕ) text_step (kept.Bool false)

pub text-Text : (bytes : List ℕ) → value_text (val.Text bytes) ≡ codes "'" ++ bytes ++ codes "'"
text-Text bytes = fold-val_of (List ℕ) text_step (kept.Text bytes)

pub text-Proc : (p : ℕ) → value_text (val.Proc p) ≡ codes "p" ++ decimal p
text-Proc p = fold-val_of (List ℕ) text_step (kept.Proc p)

pub text-Tuple : (parts : List Val) → value_text (val.Tuple parts) ≡ codes "(" ++ separated (map value_text parts) ++ closing (map value_text parts)
text-Tuple parts = fold-val_of (List ℕ) text_step (kept.Tuple parts)

pub text-Set : (elements : List Val) → value_text (val.Set elements) ≡ codes "{" ++ separated (map value_text elements) ++ codes "}"
text-Set elements = fold-val_of (List ℕ) text_step (kept.Set elements)

pub ruleset texts = (text-Int, text-true, text-false, text-Text, text-Proc, text-Tuple, text-Set)

pub len-Int : (n : ℤ) → encoded_len (val.Int n) ≡ 9
len-Int n = fold-val_of ℕ length_step (kept.Int n)

pub len-Bool : (b : Bool) → encoded_len (val.Bool b) ≡ 2
len-Bool b = fold-val_of ℕ length_step (kept.Bool b)

pub len-Text : (bytes : List ℕ) → encoded_len (val.Text bytes) ≡ 3 + length bytes
len-Text bytes = fold-val_of ℕ length_step (kept.Text bytes)

pub len-Proc : (p : ℕ) → encoded_len (val.Proc p) ≡ 3
len-Proc p = fold-val_of ℕ length_step (kept.Proc p)

pub len-Tuple : (parts : List Val) → encoded_len (val.Tuple parts) ≡ 2 + sum (map encoded_len parts)
len-Tuple parts = fold-val_of ℕ length_step (kept.Tuple parts)

pub len-Set : (elements : List Val) → encoded_len (val.Set elements) ≡ 5 + sum (map encoded_len elements)
len-Set elements = fold-val_of ℕ length_step (kept.Set elements)

pub ruleset lengths = (len-Int, len-Bool, len-Text, len-Proc, len-Tuple, len-Set)

pub narrow-Int : (n : ℤ) → is_narrow (val.Int n) ≡ is_i64 n
narrow-Int n = fold-val_of Bool narrow_step (kept.Int n)

pub narrow-Tuple : (parts : List Val) → is_narrow (val.Tuple parts) ≡ list_all (λ b. b) (map is_narrow parts)
narrow-Tuple parts = fold-val_of Bool narrow_step (kept.Tuple parts)

pub narrow-Set : (elements : List Val) → is_narrow (val.Set elements) ≡ list_all (λ b. b) (map is_narrow elements)
narrow-Set elements = fold-val_of Bool narrow_step (kept.Set elements)

pub ruleset narrowing = (narrow-Int, narrow-Tuple, narrow-Set)

-- values of two kinds
pub cmp-Int_Bool : (i : ℤ) (b : Bool) → val_cmp (val.Int i) (val.Bool b) ≡ Less
cmp-Int_Bool i b = val_cmp_of (kept.Int i) (kept.Bool b)

pub cmp-Int_Text : (i : ℤ) (text : List ℕ) → val_cmp (val.Int i) (val.Text text) ≡ Less
cmp-Int_Text i text = val_cmp_of (kept.Int i) (kept.Text text)

pub cmp-Int_Proc : (i : ℤ) (p : ℕ) → val_cmp (val.Int i) (val.Proc p) ≡ Less
cmp-Int_Proc i p = val_cmp_of (kept.Int i) (kept.Proc p)

pub cmp-Int_Tuple : (i : ℤ) (xs : List Val) → val_cmp (val.Int i) (val.Tuple xs) ≡ Less
cmp-Int_Tuple i xs = val_cmp_of (kept.Int i) (kept.Tuple xs)

pub cmp-Int_Set : (i : ℤ) (ys : List Val) → val_cmp (val.Int i) (val.Set ys) ≡ Less
cmp-Int_Set i ys = val_cmp_of (kept.Int i) (kept.Set ys)

pub cmp-Bool_Int : (b : Bool) (i : ℤ) → val_cmp (val.Bool b) (val.Int i) ≡ Greater
cmp-Bool_Int b i = val_cmp_of (kept.Bool b) (kept.Int i)

pub cmp-Bool_Text : (b : Bool) (text : List ℕ) → val_cmp (val.Bool b) (val.Text text) ≡ Less
cmp-Bool_Text b text = val_cmp_of (kept.Bool b) (kept.Text text)

pub cmp-Bool_Proc : (b : Bool) (p : ℕ) → val_cmp (val.Bool b) (val.Proc p) ≡ Less
cmp-Bool_Proc b p = val_cmp_of (kept.Bool b) (kept.Proc p)

pub cmp-Bool_Tuple : (b : Bool) (xs : List Val) → val_cmp (val.Bool b) (val.Tuple xs) ≡ Less
cmp-Bool_Tuple b xs = val_cmp_of (kept.Bool b) (kept.Tuple xs)

pub cmp-Bool_Set : (b : Bool) (ys : List Val) → val_cmp (val.Bool b) (val.Set ys) ≡ Less
cmp-Bool_Set b ys = val_cmp_of (kept.Bool b) (kept.Set ys)

pub cmp-Text_Int : (text : List ℕ) (i : ℤ) → val_cmp (val.Text text) (val.Int i) ≡ Greater
cmp-Text_Int text i = val_cmp_of (kept.Text text) (kept.Int i)

pub cmp-Text_Bool : (text : List ℕ) (b : Bool) → val_cmp (val.Text text) (val.Bool b) ≡ Greater
cmp-Text_Bool text b = val_cmp_of (kept.Text text) (kept.Bool b)

pub cmp-Text_Proc : (text : List ℕ) (p : ℕ) → val_cmp (val.Text text) (val.Proc p) ≡ Less
cmp-Text_Proc text p = val_cmp_of (kept.Text text) (kept.Proc p)

pub cmp-Text_Tuple : (text : List ℕ) (xs : List Val) → val_cmp (val.Text text) (val.Tuple xs) ≡ Less
cmp-Text_Tuple text xs = val_cmp_of (kept.Text text) (kept.Tuple xs)

pub cmp-Text_Set : (text : List ℕ) (ys : List Val) → val_cmp (val.Text text) (val.Set ys) ≡ Less
cmp-Text_Set text ys = val_cmp_of (kept.Text text) (kept.Set ys)

pub cmp-Proc_Int : (p : ℕ) (i : ℤ) → val_cmp (val.Proc p) (val.Int i) ≡ Greater
cmp-Proc_Int p i = val_cmp_of (kept.Proc p) (kept.Int i)

pub cmp-Proc_Bool : (p : ℕ) (b : Bool) → val_cmp (val.Proc p) (val.Bool b) ≡ Greater
cmp-Proc_Bool p b = val_cmp_of (kept.Proc p) (kept.Bool b)

pub cmp-Proc_Text : (p : ℕ) (text : List ℕ) → val_cmp (val.Proc p) (val.Text text) ≡ Greater
cmp-Proc_Text p text = val_cmp_of (kept.Proc p) (kept.Text text)

pub cmp-Proc_Tuple : (p : ℕ) (xs : List Val) → val_cmp (val.Proc p) (val.Tuple xs) ≡ Less
cmp-Proc_Tuple p xs = val_cmp_of (kept.Proc p) (kept.Tuple xs)

pub cmp-Proc_Set : (p : ℕ) (ys : List Val) → val_cmp (val.Proc p) (val.Set ys) ≡ Less
cmp-Proc_Set p ys = val_cmp_of (kept.Proc p) (kept.Set ys)

pub cmp-Tuple_Int : (xs : List Val) (i : ℤ) → val_cmp (val.Tuple xs) (val.Int i) ≡ Greater
cmp-Tuple_Int xs i = val_cmp_of (kept.Tuple xs) (kept.Int i)

pub cmp-Tuple_Bool : (xs : List Val) (b : Bool) → val_cmp (val.Tuple xs) (val.Bool b) ≡ Greater
cmp-Tuple_Bool xs b = val_cmp_of (kept.Tuple xs) (kept.Bool b)

pub cmp-Tuple_Text : (xs : List Val) (text : List ℕ) → val_cmp (val.Tuple xs) (val.Text text) ≡ Greater
cmp-Tuple_Text xs text = val_cmp_of (kept.Tuple xs) (kept.Text text)

pub cmp-Tuple_Proc : (xs : List Val) (p : ℕ) → val_cmp (val.Tuple xs) (val.Proc p) ≡ Greater
cmp-Tuple_Proc xs p = val_cmp_of (kept.Tuple xs) (kept.Proc p)

pub cmp-Tuple_Set : (xs : List Val) (ys : List Val) → val_cmp (val.Tuple xs) (val.Set ys) ≡ Less
cmp-Tuple_Set xs ys = val_cmp_of (kept.Tuple xs) (kept.Set ys)

pub cmp-Set_Int : (ys : List Val) (i : ℤ) → val_cmp (val.Set ys) (val.Int i) ≡ Greater
cmp-Set_Int ys i = val_cmp_of (kept.Set ys) (kept.Int i)

pub cmp-Set_Bool : (ys : List Val) (b : Bool) → val_cmp (val.Set ys) (val.Bool b) ≡ Greater
cmp-Set_Bool ys b = val_cmp_of (kept.Set ys) (kept.Bool b)

pub cmp-Set_Text : (ys : List Val) (text : List ℕ) → val_cmp (val.Set ys) (val.Text text) ≡ Greater
cmp-Set_Text ys text = val_cmp_of (kept.Set ys) (kept.Text text)

pub cmp-Set_Proc : (ys : List Val) (p : ℕ) → val_cmp (val.Set ys) (val.Proc p) ≡ Greater
cmp-Set_Proc ys p = val_cmp_of (kept.Set ys) (kept.Proc p)

pub cmp-Set_Tuple : (ys : List Val) (xs : List Val) → val_cmp (val.Set ys) (val.Tuple xs) ≡ Greater
cmp-Set_Tuple ys xs = val_cmp_of (kept.Set ys) (kept.Tuple xs)

pub ruleset kinds = (cmp-Int_Bool, cmp-Int_Text, cmp-Int_Proc, cmp-Int_Tuple, cmp-Int_Set, cmp-Bool_Int, cmp-Bool_Text, cmp-Bool_Proc, cmp-Bool_Tuple, cmp-Bool_Set, cmp-Text_Int, cmp-Text_Bool, cmp-Text_Proc, cmp-Text_Tuple, cmp-Text_Set, cmp-Proc_Int, cmp-Proc_Bool, cmp-Proc_Text, cmp-Proc_Tuple, cmp-Proc_Set, cmp-Tuple_Int, cmp-Tuple_Bool, cmp-Tuple_Text, cmp-Tuple_Proc, cmp-Tuple_Set, cmp-Set_Int, cmp-Set_Bool, cmp-Set_Text, cmp-Set_Proc, cmp-Set_Tuple)
