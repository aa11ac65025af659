-- Values as keys of a map: when two are the same, and what they give a hasher.
use Rattle.std.specs.Prelude.{◌≡◌, ℕ, Bool, List, ◌∷◌, [], ◌++◌, length, nat_eq, refl}
use Rattle.std.specs.Bool.{Decides}
use Rattle.std.specs.Cmp.{Equal-is, IsEquivalence, eq_by_cmp_equiv, unsigned_Decides}
use Rattle.std.specs.Cmp.Lexicographic.{pointwise}
use Rattle.std.specs.Hash as fed
use Rattle.std.specs.Hash.{Alike, same_Alike}
use Rattle.std.specs.Ordering.{eq_by_cmp}
use Rattle.std.proofs.Common.{◌∙◌, ap, sym}
use Rattle.std.proofs.lemmas.Slice.Eq.{slice_eq-Decides}
use Rattle.da_values.specs.declared.val.Val.{Val}
use Rattle.da_values.specs.declared.val.Val.TheOpen.{Val-F, Int, Bool as Truth, Text, Proc, Tuple, Set}
use Rattle.da_values.specs.declared.val.Val.TheFolds.{fold-Val}
use Rattle.da_values.specs.Order.{val_cmp, row_cmp}
use Rattle.da_values.specs.OrderLaws.{val_order, row_order, same_from_val_cmp, same_from_row_cmp}

-- the test: they are the same value
abbrev pub same_value : Val → Val → Bool
same_value = eq_by_cmp val_cmp

-- the test: they are the same row
abbrev pub same_row : List Val → List Val → Bool
same_row = eq_by_cmp row_cmp

-- the length, and then all bytes at once
abbrev pub text_writes : List ℕ → List (List ℕ)
text_writes bytes = fed.usize (length bytes) ++ bytes ∷ []

-- the kind, and then the content; tuples and sets by how many parts there are, and each of them
abbrev pub writes_step : Val-F (List (List ℕ)) → List (List ℕ)
writes_step (Int number) = fed.u8 0 ++ fed.i128 number
writes_step (Truth truth) = fed.u8 1 ++ fed.bool truth
writes_step (Text bytes) = fed.u8 2 ++ text_writes bytes
writes_step (Proc process) = fed.u8 3 ++ fed.u16 process
writes_step (Tuple parts) = fed.u8 4 ++ fed.slice (λ part. part) parts
writes_step (Set elements) = fed.u8 5 ++ fed.slice (λ element. element) elements

-- what a value gives a hasher
abbrev pub val_writes : Val → List (List ℕ)
val_writes = fold-Val (List (List ℕ)) writes_step

-- what a row gives: how many values there are, and each of them
abbrev pub row_writes : List Val → List (List ℕ)
row_writes = fed.slice val_writes

pub same_value_equiv : IsEquivalence same_value
same_value_equiv = eq_by_cmp_equiv val_order

pub same_row_equiv : IsEquivalence same_row
same_row_equiv = eq_by_cmp_equiv row_order

-- each test tells whether they are the same
pub same_value-is : (x y : Val) → Decides (same_value x y) (x ≡ y)
same_value-is x y =
    ((λ e. same_from_val_cmp x y ((Equal-is (val_cmp x y)).0 e)), (λ e. ap (same_value x) (sym e) ∙ same_value_equiv.refl x))

pub same_row-is : (xs ys : List Val) → Decides (same_row xs ys) (xs ≡ ys)
same_row-is xs ys =
    ((λ e. same_from_row_cmp xs ys ((Equal-is (row_cmp xs ys)).0 e)), (λ e. ap (same_row xs) (sym e) ∙ same_row_equiv.refl xs))

-- what is the same gives a hasher the same
pub same_value_alike : Alike same_value val_writes
same_value_alike = same_Alike val_writes same_value-is

pub same_row_alike : Alike same_row row_writes
same_row_alike = same_Alike row_writes same_row-is

pub same_text_alike : Alike (pointwise nat_eq) text_writes
same_text_alike = same_Alike text_writes (λ xs ys. slice_eq-Decides unsigned_Decides xs ys (pointwise nat_eq xs ys) refl)
