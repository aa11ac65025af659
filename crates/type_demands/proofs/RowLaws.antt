-- Rows that are there exactly where demands are met.
use Rattle.std.specs.Prelude.{◌≡◌, refl, ℕ, zero, suc, Bool, true, false, ◌&&◌, List, [], ◌∷◌, ◌++◌, map, length, Option, Some, None}
use Rattle.std.specs.List.{AllByRecursion}
use Rattle.std.proofs.Common.{◌∙◌, ap, sym, subst, arith}
use Rattle.std.proofs.lemmas.Bool.{eqb-true, eqb-false, false≢true}
use Rattle.da_lang.specs.declared.ty.Ty.{Ty}
use Rattle.da_lang.specs.QueryTypes.{TypeExtension, given, holds_of, when, is_typed, each_part}
use Rattle.da_lang.specs.Types.{is_flat, parts_of}
use Rattle.da_lang.specs.World.{at_number}
use Rattle.type_table.specs.declared.scheme.Scheme.{Scheme}
use Rattle.type_table.specs.declared.scheme.Scheme.TheVariants as s
use Rattle.type_table.specs.Fits.{Meaning}
use Rattle.type_table.specs.Schemes.{stands}
use Rattle.type_demands.specs.declared.demand.Demand.{Demand}
use Rattle.type_demands.specs.declared.demand.Demand.TheVariants as d
use Rattle.type_demands.specs.Demands.{all_met, has_width}
use Rattle.type_demands.specs.Syms.{Sym, found, flat_sym, same_as, plain_or_never}
use Rattle.type_demands.specs.Terms.{RowSym, row_sym, row_then, no_row, PatternSym, parts_sym}
use Rattle.type_demands.specs.Meets.{Stand, RowAgrees}
use Rattle.type_demands.proofs.FoundLaws.{guard, and_true, met_both, met_last, same_found}
use Rattle.type_demands.proofs.PartLaws.{PartsStand, parts_stand}

module _ (m : Meaning) (headed : ℕ → Bool) where
  abbrev Met : List Demand → Bool
  Met ds = all_met m headed ds

  abbrev Stands : List Scheme → List Ty → Type 0
  Stands row types = Stand m headed row types

  pub stand_more : (row : List Scheme) (types : List Ty) (x : Scheme) (ty : Ty) → Stands row types → stands m x ≡ Some ty → Stands (row ++ x ∷ []) (types ++ ty ∷ [])
  stand_more [] [] x ty so is = (is, tt)
  stand_more [] (u ∷ types) x ty so is = absurd so
  stand_more (y ∷ row) [] x ty so is = absurd so
  stand_more (y ∷ row) (u ∷ types) x ty so is = (so.0, stand_more row types x ty so.1 is)

  pub part_found : (row : List Scheme) (types : List Ty) → Stands row types → (k : ℕ) → at_number types k ≡ found m headed (plain_or_never (at_number row k))
  part_found row types so zero = refl
  part_found [] [] so (suc k) = refl
  part_found [] (ty ∷ types) so (suc k) = absurd so
  part_found (x ∷ row) [] so (suc k) = absurd so
  part_found (x ∷ row) (ty ∷ types) so (suc zero) = sym so.0
  part_found (x ∷ row) (ty ∷ types) so (suc (suc k)) = part_found row types so.1 (suc k)

  pub stays : (row : List Scheme) (types : List Ty) → Stands row types → RowAgrees m headed (Some types) (row_sym [] row)
  stays row types so = record { there = λ e. (types, refl, so); missing = λ e. absurd (false≢true (sym e)) }

  pub none_there : (row : List Scheme) → RowAgrees m headed None (no_row row)
  none_there row = record { there = λ e. absurd (false≢true e); missing = λ e. refl }

  -- the same row, where a test holds that is what is demanded
  pub when_agrees : (b : Bool) (ds : List Demand) (row : List Scheme) (types : List Ty) → b ≡ Met ds → Stands row types → RowAgrees m headed (when b types) (row_sym ds row)
  when_agrees b ds row types is so = record { there = λ e. (types, ap (λ c. when c types) (is ∙ e), so); missing = λ e. ap (λ c. when c types) (is ∙ e) }

  pub typed_agrees : (o : Option Ty) (x : Sym) → o ≡ found m headed x → (asked : Scheme) (ty : Ty) (row : List Scheme) (types : List Ty) → stands m asked ≡ Some ty → Stands row types → RowAgrees m headed (when (is_typed o ty) types) (row_sym (same_as asked x) row)
  typed_agrees o x is asked ty row types stand so =
      when_agrees (is_typed o ty) (same_as asked x) row types
      (ap (λ z. is_typed z ty) is ∙ ap (λ z. holds_of z (is_typed (found m headed x))) (sym stand) ∙ same_found m headed x asked) so

  -- what is demanded first is met; it is not
  pub after_met : (o : Option (List Ty)) (first : RowSym) (next : List Scheme → RowSym) → Met first.demands ≡ true → RowAgrees m headed o (next first.row) → RowAgrees m headed o (row_then first next)
  after_met o first next is agrees =
      let whole : Met (first.demands ++ (next first.row).demands) ≡ Met (next first.row).demands = met_both m headed first.demands (next first.row).demands ∙ ap (λ b. b && Met (next first.row).demands) is in
      record { there = λ e. agrees.there (sym whole ∙ e); missing = λ e. agrees.missing (sym whole ∙ e) }

  pub after_missing : (o : Option (List Ty)) (first : RowSym) (next : List Scheme → RowSym) → Met first.demands ≡ false → o ≡ None → RowAgrees m headed o (row_then first next)
  after_missing o first next not none =
      let whole : Met (first.demands ++ (next first.row).demands) ≡ false = met_both m headed first.demands (next first.row).demands ∙ ap (λ b. b && Met (next first.row).demands) not in
      record { there = λ e. absurd (false≢true (sym whole ∙ e)); missing = λ e. none }

  -- one after the other
  pub then_agrees : (o : Option (List Ty)) (f : List Ty → Option (List Ty)) (first : RowSym) (next : List Scheme → RowSym) → RowAgrees m headed o first → ((types : List Ty) → Stands first.row types → RowAgrees m headed (f types) (next first.row))
      → RowAgrees m headed (given o f) (row_then first next)
  then_agrees o f first next one rest = go (Met first.demands) refl
    where
      go : (b : Bool) → all_met m headed first.demands ≡ b → RowAgrees m headed (given o f) (row_then first next)
      go true e =
          let (types, is, so) = one.there e in
          after_met (given o f) first next e (subst (λ z. RowAgrees m headed (given z f) (next first.row)) (sym is) (rest types so))
      go false e = after_missing (given o f) first next e (ap (λ z. given z f) (one.missing e))

  -- what comes after a row
  pub after_row : {B : Type 0} (o : Option (List Ty)) (x : RowSym) (f : List Ty → Option B) (r : Option B) → RowAgrees m headed o x → ((types : List Ty) → Stands x.row types → f types ≡ r) → given o f ≡ guard (Met x.demands) r
  after_row o x f r agrees each = go (Met x.demands) refl
    where
      go : (b : Bool) → all_met m headed x.demands ≡ b → given o f ≡ guard b r
      go true e = let (types, is, so) = agrees.there e in ap (λ z. given z f) is ∙ each types so
      go false e = ap (λ z. given z f) (agrees.missing e)

  pub there_where : (o : Option (List Ty)) (x : RowSym) → RowAgrees m headed o x → holds_of o (λ types. true) ≡ Met x.demands
  there_where o x agrees = go (Met x.demands) refl
    where
      go : (b : Bool) → all_met m headed x.demands ≡ b → holds_of o (λ types. true) ≡ all_met m headed x.demands
      go true e = let (types, is, so) = agrees.there e in ap (λ z. holds_of z (λ types. true)) is ∙ sym e
      go false e = ap (λ z. holds_of z (λ types. true)) (agrees.missing e) ∙ sym e

  -- what is found, of at most 32 levels: a row over it
  pub over_agrees : (o : Option Ty) (x : Sym) (f : Ty → Option (List Ty)) (next : List Scheme → RowSym) (row : List Scheme) → o ≡ found m headed (flat_sym x) → ((ty : Ty) → stands m x.scheme ≡ Some ty → RowAgrees m headed (f ty) (next row))
      → RowAgrees m headed (given o f) (row_then (row_sym (flat_sym x).demands row) next)
  over_agrees o x f next row is each = go (Met (flat_sym x).demands) refl (stands m x.scheme) refl
    where
      here : (b : Bool) (p : Option Ty) → all_met m headed (flat_sym x).demands ≡ b → stands m x.scheme ≡ p → o ≡ guard b p
      here b p e stand = is ∙ ap (λ c. guard c (stands m x.scheme)) e ∙ ap (guard b) stand

      unmet : (p : Option Ty) → stands m x.scheme ≡ p → holds_of (stands m x.scheme) is_flat ≡ holds_of p is_flat
      unmet p stand = ap (λ z. holds_of z is_flat) stand

      go : (b : Bool) → all_met m headed (flat_sym x).demands ≡ b → (p : Option Ty) → stands m x.scheme ≡ p → RowAgrees m headed (given o f) (row_then (row_sym (flat_sym x).demands row) next)
      go true e (Some ty) stand =
          after_met (given o f) (row_sym (flat_sym x).demands row) next e (subst (λ z. RowAgrees m headed (given z f) (next row)) (sym (here true (Some ty) e stand)) (each ty stand))
      go true e None stand =
          absurd (false≢true (sym (nothing (all_met m headed x.demands)) ∙ sym (met_last m headed x.demands (d.Flat x.scheme) ∙ ap (λ b. all_met m headed x.demands && b) (unmet None stand)) ∙ e))
        where
          nothing : (b : Bool) → (b && false) ≡ false
          nothing true = refl
          nothing false = refl
      go false e p stand = after_missing (given o f) (row_sym (flat_sym x).demands row) next e (ap (λ z. given z f) (here false p e stand))

  -- the patterns of the parts of a tuple
  module _ {X : Type 0} (f : X → TypeExtension) (g : X → PatternSym) where
    abbrev pub OneAgrees : X → Type 0
    OneAgrees y = (asked : Scheme) (ty : Ty) (row : List Scheme) (types : List Ty) → stands m asked ≡ Some ty → Stands row types → RowAgrees m headed (f y ty types) (g y asked row)

    parts_agree : (asked : Scheme) (count at : ℕ) (ys : List X) (parts : List Ty) → AllByRecursion OneAgrees ys → PartsStand m asked count at parts → length parts ≡ length ys → (row : List Scheme) (types : List Ty) → Stands row types
        → RowAgrees m headed (each_part (map f ys) parts types) (parts_sym at count asked (map g ys) row)
    parts_agree asked count at [] [] each stand size row types so = stays row types so
    parts_agree asked count at [] (ty ∷ parts) each stand size row types so = absurd (omega (arith, size))
    parts_agree asked count at (y ∷ ys) [] each stand size row types so = absurd (omega (arith, size))
    parts_agree asked count at (y ∷ ys) (ty ∷ parts) each stand size row types so =
        let first = g y (s.Part asked at count) row in
        then_agrees (f y ty types) (each_part (map f ys) parts) first (parts_sym (suc at) count asked (map g ys)) (each.0 (s.Part asked at count) ty row types stand.0 so)
        (λ later there. parts_agree asked count (suc at) ys parts each.1 stand.1 (omega (arith, size)) first.row later there)

    other_count : (fs : List TypeExtension) (parts types : List Ty) → (length parts ≡ length fs → ⊥) → each_part fs parts types ≡ None
    other_count [] [] types apart = absurd (apart refl)
    other_count [] (ty ∷ parts) types apart = refl
    other_count (p ∷ fs) [] types apart = refl
    other_count (p ∷ fs) (ty ∷ parts) types apart = go (λ later. other_count fs parts later (λ same. apart (ap suc same))) (p ty types)
      where
        go : ((later : List Ty) → each_part fs parts later ≡ None) → (o : Option (List Ty)) → given o (each_part fs parts) ≡ None
        go none None = refl
        go none (Some later) = none later

    same_count : (ys : List X) → length (map f ys) ≡ length (map g ys)
    same_count [] = refl
    same_count (y ∷ ys) = ap suc (same_count ys)

    mapped_count : (ys : List X) → length (map g ys) ≡ length ys
    mapped_count [] = refl
    mapped_count (y ∷ ys) = ap suc (mapped_count ys)

    pub tuple_agrees : (ys : List X) → AllByRecursion OneAgrees ys → (asked : Scheme) (ty : Ty) (row : List Scheme) (types : List Ty) → stands m asked ≡ Some ty → Stands row types
        → RowAgrees m headed (given (parts_of ty) (λ parts. each_part (map f ys) parts types)) (row_then (row_sym (d.Width asked (length (map g ys)) ∷ []) row) (parts_sym zero (length (map g ys)) asked (map g ys)))
    tuple_agrees ys each asked ty row types stand so = go (parts_of ty) refl
      where
        first : RowSym
        first = row_sym (d.Width asked (length (map g ys)) ∷ []) row

        width : (o : Option (List Ty)) → parts_of ty ≡ o → all_met m headed (d.Width asked (length (map g ys)) ∷ []) ≡ holds_of o (has_width (length (map g ys)))
        width o parts =
            and_true (holds_of (given (stands m asked) parts_of) (has_width (length (map g ys))))
            ∙ ap (λ z. holds_of (given z parts_of) (has_width (length (map g ys)))) stand
            ∙ ap (λ z. holds_of z (has_width (length (map g ys)))) parts

        counted : (parts : List Ty) → parts_of ty ≡ Some parts → (b : Bool) → has_width (length (map g ys)) parts ≡ b
            → RowAgrees m headed (each_part (map f ys) parts types) (row_then (row_sym (d.Width asked (length (map g ys)) ∷ []) row) (parts_sym zero (length (map g ys)) asked (map g ys)))
        counted parts is true e =
            after_met (each_part (map f ys) parts types) (row_sym (d.Width asked (length (map g ys)) ∷ []) row) (parts_sym zero (length (map g ys)) asked (map g ys))
            (and_true (holds_of (given (stands m asked) parts_of) (has_width (length (map g ys)))) ∙ ap (λ z. holds_of (given z parts_of) (has_width (length (map g ys)))) stand ∙ ap (λ z. holds_of z (has_width (length (map g ys)))) is ∙ e)
            (parts_agree asked (length (map g ys)) zero ys parts each (parts_stand m asked (length (map g ys)) ty parts stand is e) (eqb-true (length parts) (length (map g ys)) e ∙ mapped_count ys) row types so)
        counted parts is false e =
            after_missing (each_part (map f ys) parts types) (row_sym (d.Width asked (length (map g ys)) ∷ []) row) (parts_sym zero (length (map g ys)) asked (map g ys))
            (and_true (holds_of (given (stands m asked) parts_of) (has_width (length (map g ys)))) ∙ ap (λ z. holds_of (given z parts_of) (has_width (length (map g ys)))) stand ∙ ap (λ z. holds_of z (has_width (length (map g ys)))) is ∙ e)
            (other_count (map f ys) parts types (λ size. eqb-false (length parts) (length (map g ys)) e (size ∙ same_count ys)))

        go : (o : Option (List Ty)) → parts_of ty ≡ o → RowAgrees m headed (given o (λ parts. each_part (map f ys) parts types)) (row_then (row_sym (d.Width asked (length (map g ys)) ∷ []) row) (parts_sym zero (length (map g ys)) asked (map g ys)))
        go None is = after_missing None (row_sym (d.Width asked (length (map g ys)) ∷ []) row) (parts_sym zero (length (map g ys)) asked (map g ys)) (width None is) refl
        go (Some parts) is = counted parts is (has_width (length (map g ys)) parts) refl
