-- What a value gives a hasher, one layer at a time.
use Rattle.std.specs.Prelude.{◌≡◌, ℕ, suc, List, [], ◌∷◌, ◌++◌, map, length, refl}
use Rattle.std.specs.Hash as fed
use Rattle.std.specs.List.{flat_map}
use Rattle.std.proofs.Common.{◌∙◌, ap}
use Rattle.da_values.specs.declared.val.Val.{Val}
use Rattle.da_values.specs.declared.value.Value.{Value}
use Rattle.da_values.specs.declared.value.Value.TheVariants.{Int, Bool as Truth, Text, Proc, Tuple, Set}
use Rattle.da_values.specs.Keys.{text_writes, writes_step, val_writes, row_writes}
use Rattle.da_values.specs.Layer.{fold-val_of}
use Rattle.da_values.specs.Value.{val_of}

-- the writes of the parts, one after the other, and how many parts there are
slice-map : {A B : Type 0} (f : A → B) (g : B → List (List ℕ)) (xs : List A) → (length (map f xs) ≡ length xs) × (flat_map g (map f xs) ≡ flat_map (λ x. g (f x)) xs)
slice-map f g [] = (refl, refl)
slice-map f g (x ∷ xs) = let (long, each) = slice-map f g xs in (ap suc long, ap (λ ws. g (f x) ++ ws) each)

rows-map : (values : List Val) → fed.slice (λ part. part) (map val_writes values) ≡ row_writes values
rows-map values =
    let (long, each) = slice-map val_writes (λ part. part) values in
    ap (λ n. fed.usize n ++ flat_map (λ part. part) (map val_writes values)) long ∙ ap (λ ws. fed.usize (length values) ++ ws) each

abbrev pub val_writes_at : Value → List (List ℕ)
val_writes_at (Int number) = fed.u8 0 ++ fed.i128 number
val_writes_at (Truth truth) = fed.u8 1 ++ fed.bool truth
val_writes_at (Text bytes) = fed.u8 2 ++ text_writes bytes
val_writes_at (Proc process) = fed.u8 3 ++ fed.u16 process
val_writes_at (Tuple parts) = fed.u8 4 ++ row_writes parts
val_writes_at (Set elements) = fed.u8 5 ++ row_writes elements

pub val_writes_of : (v : Value) → val_writes (val_of v) ≡ val_writes_at v
val_writes_of (Int number) = fold-val_of (List (List ℕ)) writes_step (Int number)
val_writes_of (Truth truth) = fold-val_of (List (List ℕ)) writes_step (Truth truth)
val_writes_of (Text text) = fold-val_of (List (List ℕ)) writes_step (Text text)
val_writes_of (Proc process) = fold-val_of (List (List ℕ)) writes_step (Proc process)
val_writes_of (Tuple parts) = fold-val_of (List (List ℕ)) writes_step (Tuple parts) ∙ ap (λ ws. fed.u8 4 ++ ws) (rows-map parts)
val_writes_of (Set elements) = fold-val_of (List (List ℕ)) writes_step (Set elements) ∙ ap (λ ws. fed.u8 5 ++ ws) (rows-map elements)
