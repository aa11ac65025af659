-- What is known of a world of a typed program, and rows whose parts have their types. Beside its type a value may keep
-- any fact that goes from parts and elements to tuples and sets, and back.
use Rattle.std.specs.Prelude.{◌≡◌, refl, ℕ, zero, suc, Bool, true, List, [], ◌∷◌, ◌++◌, map, Some, slice_get}
use Rattle.std.specs.List.{AllByRecursion}
use Rattle.std.proofs.Common.{subst}
use Rattle.std.proofs.lemmas.Bool.{false≢true, and_parts, and_from}
use Rattle.da_values.specs.declared.val.Val.{Val}
use Rattle.da_values.specs.declared.val.Val.TheVariants as val
use Rattle.da_values.specs.declared.value.Value.{Value}
use Rattle.da_values.specs.Order.{val_cmp}
use Rattle.da_values.specs.Sets.{Has, Ascends}
use Rattle.da_values.specs.Value.{val_of}
use Rattle.da_lang.specs.declared.query.Term.{Term}
use Rattle.da_lang.specs.declared.query.Term.TheVariants as te
use Rattle.da_lang.specs.declared.ty.Ty.{Ty}
use Rattle.da_lang.specs.Matching.{Row}
use Rattle.da_lang.specs.QueryTypes.{Known, literal_type, slot_type}
use Rattle.da_lang.specs.Shaped.{is_declared}
use Rattle.da_lang.specs.Types.{is_of, all_of}
use Rattle.da_lang.specs.World.{Entry, Data, at_number, slot_of}

pub record Keeping : Type 1 where
  pub Kept : Val → Type 0
  pub Good : Term → Type 0
  pub constant : (c : Value) (ty : Ty) → literal_type c ≡ Some ty → Good (te.Const c) → Kept (val_of c)
  pub terms : (ts : List Term) → Good (te.Tuple ts) → AllByRecursion Good ts
  pub truth : (b : Bool) → Kept (val.Bool b)
  pub tuple : (vs : List Val) → AllByRecursion Kept vs → Kept (val.Tuple vs)
  pub parts : (vs : List Val) → Kept (val.Tuple vs) → AllByRecursion Kept vs
  pub set : (vs : List Val) → ((v : Val) → Has vs v → Kept v) → Ascends val_cmp vs → Kept (val.Set vs)
  pub elements : (vs : List Val) → Kept (val.Set vs) → (v : Val) → Has vs v → Kept v

-- a value of a type, of which that fact is kept
abbrev pub Fits : Keeping → Ty → Val → Type 0
Fits k ty v = (is_of ty v ≡ true) × k.Kept v

-- a row with these types, part by part
abbrev pub RowFits : Keeping → List Ty → Row → Type 0
RowFits k [] [] = Unit {0}
RowFits k [] (v ∷ row) = ⊥
RowFits k (ty ∷ types) [] = ⊥
RowFits k (ty ∷ types) (v ∷ row) = Fits k ty v × RowFits k types row

abbrev pub EntryFits : Keeping → Known → Entry → Type 0
EntryFits k known e = (is_declared known.messages e.message ≡ true) × k.Kept e.message × k.Kept (val.Proc e.peer)

pub record Knows (k : Keeping) (known : Known) (d : Data) : Type 0 where
  pub me : k.Kept (val.Proc d.me)
  pub slots : (slot : ℕ) (ty : Ty) → slot_type known slot ≡ Some ty → Fits k ty (slot_of d slot)
  pub there : (slot : ℕ) (ty : Ty) → slot_type known slot ≡ Some ty → at_number d.slots slot ≡ Some (slot_of d slot)
  pub sent : (e : Entry) → Has d.sent e → EntryFits k known e
  pub received : (e : Entry) → Has d.received e → EntryFits k known e

module _ (k : Keeping) where
  pub row_types : (types : List Ty) (row : Row) → RowFits k types row → all_of (map is_of types) row ≡ true
  row_types [] [] fits = refl
  row_types [] (v ∷ row) fits = absurd fits
  row_types (ty ∷ types) [] fits = absurd fits
  row_types (ty ∷ types) (v ∷ row) fits = and_from (is_of ty v) (all_of (map is_of types) row) fits.0.0 (row_types types row fits.1)

  pub row_kept : (types : List Ty) (row : Row) → RowFits k types row → AllByRecursion k.Kept row
  row_kept [] [] fits = tt
  row_kept [] (v ∷ row) fits = absurd fits
  row_kept (ty ∷ types) [] fits = absurd fits
  row_kept (ty ∷ types) (v ∷ row) fits = (fits.0.1, row_kept types row fits.1)

  pub row_fits : (types : List Ty) (row : Row) → all_of (map is_of types) row ≡ true → AllByRecursion k.Kept row → RowFits k types row
  row_fits [] [] of_types kept = tt
  row_fits [] (v ∷ row) of_types kept = absurd (false≢true of_types)
  row_fits (ty ∷ types) [] of_types kept = absurd (false≢true of_types)
  row_fits (ty ∷ types) (v ∷ row) of_types kept =
      let both = and_parts (is_of ty v) (all_of (map is_of types) row) of_types in
      ((both.0, kept.0), row_fits types row both.1 kept.1)

  pub row_more : (types : List Ty) (row : Row) (ty : Ty) (v : Val) → RowFits k types row → Fits k ty v → RowFits k (types ++ ty ∷ []) (row ++ v ∷ [])
  row_more [] [] ty v fits one = (one, tt)
  row_more [] (x ∷ row) ty v fits one = absurd fits
  row_more (a ∷ types) [] ty v fits one = absurd fits
  row_more (a ∷ types) (x ∷ row) ty v fits one = (fits.0, row_more types row ty v fits.1 one)

  part_got : (types : List Ty) (row : Row) (place : ℕ) (ty : Ty) → RowFits k types row → slice_get types place ≡ Some ty → (v : Val) × (slice_get row place ≡ Some v) × Fits k ty v
  part_got [] row place ty fits e = absurd (cc)
  part_got (a ∷ types) [] place ty fits e = absurd fits
  part_got (a ∷ types) (v ∷ row) zero ty fits e = let same : a ≡ ty = cc in (v, refl, subst (λ z. Fits k z v) same fits.0)
  part_got (a ∷ types) (v ∷ row) (suc place) ty fits e = part_got types row place ty fits.1 e

  -- a part of a row is there, and has its type
  pub part_fits : (types : List Ty) (row : Row) (part : ℕ) (ty : Ty) → RowFits k types row → at_number types part ≡ Some ty → (v : Val) × (at_number row part ≡ Some v) × Fits k ty v
  part_fits types row zero ty fits e = absurd (cc)
  part_fits types row (suc place) ty fits e = part_got types row place ty fits e
