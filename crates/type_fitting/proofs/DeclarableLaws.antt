-- Which types may be declared: those that few tokens spell, and whose tuples have few parts.
use Rattle.std.specs.Prelude.{◌≡◌, refl, ℕ, zero, suc, ◌≤◌, nat_le, true, false, ◌&&◌, List, [], ◌∷◌, map, length}
use Rattle.std.specs.List.{list_all, AllByRecursion}
use Rattle.std.proofs.Common.{◌∙◌, sym, arith}
use Rattle.std.proofs.lemmas.Bool.{and_parts, and_from}
use Rattle.std.proofs.lemmas.List.{length-map}
use Rattle.std.proofs.lemmas.List.Elements.{All-from_recursion}
use Rattle.da_values.specs.declared.token.Mark.TheVariants as m
use Rattle.da_values.specs.Marks.{Tok}
use Rattle.da_lang.specs.declared.ty.Ty.{Ty}
use Rattle.da_lang.specs.declared.ty.Ty.TheVariants as ty
use Rattle.da_lang.specs.Limits.{wide, most_parts}
use Rattle.da_lang.specs.Spelling.{Spelling, Room, IsSpelled, Separated, Closed}
use Rattle.da_lang.specs.TypeGrammar.{IsType, TypeIn}
use Rattle.da_lang.specs.Types.{levels}
use Rattle.da_lang.specs.Written.{type_width, greatest}
use Rattle.da_lang.proofs.WorldLaws.{ty_induction}
use Rattle.da_lang.proofs.typing.TypesAt.{type_width-Int, type_width-Bool, type_width-Text, type_width-Proc, type_width-Tuple, type_width-Set}
use Rattle.type_choice.specs.Lean.{IsLean}
use Rattle.type_choice.specs.Looks.{tokens, is_short, most_tokens as most_looked}
use Rattle.type_choice.proofs.CountLaws.{no_longer}
use Rattle.type_choice.proofs.SpellLaws.{spelled_by}
use Rattle.type_fitting.specs.Declarable.{IsDeclarable, most_tokens}
use Rattle.type_fitting.specs.Narrow.{is_few, narrow}
use Rattle.type_fitting.proofs.ListLaws.{le_true, true_le, lt_false, false_lt}
use Rattle.type_fitting.proofs.NarrowLaws.{narrow_int, narrow_bool, narrow_text, narrow_proc, narrow_tuple, narrow_set, still_narrow}
use Rattle.type_fitting.proofs.SpellingLaws.{anywhere, can_spell}

-- counts
few_from : (n : ℕ) → 1 ≤ n → n ≤ 255 → is_few n ≡ true
few_from n some most = and_from (nat_le 1 n) (nat_le n 255) (true_le 1 n some) (true_le n 255 most)

few_most : (n : ℕ) → is_few n ≡ true → n ≤ 255
few_most n few = le_true n 255 (and_parts (nat_le 1 n) (nat_le n 255) few).1

width_most : (n : ℕ) → wide n ≡ false → n ≤ 255
unfolding most_parts
width_most n not_wide = lt_false 255 n not_wide

width_is : (n : ℕ) → n ≤ 255 → wide n ≡ false
unfolding most_parts
width_is n most = false_lt 255 n most

short_most : (x : Ty) → is_short x ≡ true → tokens x ≤ 1024
unfolding most_looked
short_most x short = le_true (tokens x) 1024 short

short_from : (x : Ty) → tokens x ≤ 1024 → is_short x ≡ true
unfolding most_looked
short_from x most = true_le (tokens x) 1024 most

-- a tuple that is spelled has parts
module _ {Inner : Spelling Ty} (inner : (x : Ty) (t r : List Tok) → Inner x t r → type_width x ≤ 255 → narrow x ≡ true) where
  separated_narrow : {xs : List Ty} {t r : List Tok} → Separated m.Comma Inner xs t r → greatest (map type_width xs) ≤ 255 → list_all narrow xs ≡ true
  separated_narrow (Separated.last {x} {t} {r} h) most = and_from (narrow x) true (inner x t r h (omega (arith, most))) refl
  separated_narrow (Separated.more {x} {xs} {t} {r} h comma rest) most =
      and_from (narrow x) (list_all narrow xs) (inner x t r h (omega (arith, most))) (separated_narrow rest (omega (arith, most)))

  closed_narrow : {xs : List Ty} {t r : List Tok} → Closed m.CloseParen Inner xs t r → greatest (map type_width xs) ≤ 255 → list_all narrow xs ≡ true
  closed_narrow (Closed.empty h) most = refl
  closed_narrow (Closed.full h close) most = separated_narrow h most

  spelled_narrow : {room : Room} (x : Ty) (t r : List Tok) → IsType room Inner x t r → type_width x ≤ 255 → narrow x ≡ true
  spelled_narrow _ t r (IsType.int h) most = narrow_int
  spelled_narrow _ t r (IsType.bool h) most = narrow_bool
  spelled_narrow _ t r (IsType.str h) most = narrow_text
  spelled_narrow _ t r (IsType.proc h) most = narrow_proc
  spelled_narrow _ t r (IsType.set {x} h o a e) most = narrow_set x ∙ inner x _ _ a (omega (arith, most, type_width-Set x))
  spelled_narrow _ t r (IsType.tuple {x} {xs} o a c l) most =
      let size : length (map type_width (x ∷ xs)) ≡ length (x ∷ xs) = length-map (x ∷ xs) type_width in
      narrow_tuple (x ∷ xs)
      ∙ and_from (is_few (length (x ∷ xs))) (narrow x && list_all narrow xs) (few_from (length (x ∷ xs)) (omega arith) (omega (arith, most, type_width-Tuple (x ∷ xs), size)))
      (and_from (narrow x) (list_all narrow xs) (inner x _ _ a (omega (arith, most, type_width-Tuple (x ∷ xs)))) (closed_narrow l (omega (arith, most, type_width-Tuple (x ∷ xs)))))

narrow_by : (room : ℕ → Room) (f d : ℕ) (x : Ty) (t r : List Tok) → TypeIn room f d x t r → type_width x ≤ 255 → narrow x ≡ true
unfolding TypeIn
narrow_by room zero d x t r h most = absurd h
narrow_by room (suc f) d x t r h most = spelled_narrow (narrow_by room f (suc d)) x t r h most

-- and no more parts than the limit
abbrev IsWithin : Ty → Type 0
IsWithin x = narrow x ≡ true → type_width x ≤ 255

parts_within : (parts : List Ty) → AllByRecursion IsWithin parts → list_all narrow parts ≡ true → greatest (map type_width parts) ≤ 255
parts_within [] each small = omega arith
parts_within (x ∷ xs) each small =
    let both = and_parts (narrow x) (list_all narrow xs) small in
    omega (arith, each.0 both.0, parts_within xs each.1 both.1)

tuple_within : (parts : List Ty) → AllByRecursion IsWithin parts → IsWithin (ty.Tuple parts)
tuple_within parts each small =
    let both = and_parts (is_few (length parts)) (list_all narrow parts) (sym (narrow_tuple parts) ∙ small) in
    let size : length (map type_width parts) ≡ length parts = length-map parts type_width in
    omega (arith, few_most (length parts) both.0, size, parts_within parts each both.1, type_width-Tuple parts)

is_within : (x : Ty) → IsWithin x
is_within =
    ty_induction IsWithin
    (λ small. omega (arith, type_width-Int))
    (λ small. omega (arith, type_width-Bool))
    (λ small. omega (arith, type_width-Text))
    (λ small. omega (arith, type_width-Proc))
    tuple_within
    (λ element within small. omega (arith, within (sym (narrow_set element) ∙ small), type_width-Set element))

-- in both directions
pub declared_narrow : (x : Ty) → IsDeclarable x → narrow x ≡ true
declared_narrow x declared = narrow_by anywhere declared.size 0 x declared.tokens [] declared.spells (width_most (type_width x) declared.narrow)

pub declared_short : (x : Ty) → IsDeclarable x → is_short x ≡ true
unfolding most_tokens
declared_short x declared = short_from x (omega (arith, spelled_by anywhere declared.size 0 x declared.tokens [] declared.spells, declared.short))

pub may_declare : (x : Ty) → is_short x ≡ true → narrow x ≡ true → IsDeclarable x
unfolding most_tokens
may_declare x short small =
    let (list, spelt, is) = can_spell x small (suc (levels x)) 0 (omega arith) [] tt in
    record {
      tokens = list;
      spelled = All-from_recursion IsSpelled list spelt;
      size = suc (levels x);
      spells = is;
      short = omega (arith, spelled_by anywhere (suc (levels x)) 0 x list [] is, short_most x short);
      narrow = width_is (type_width x) (is_within x small);
    }

-- what is lean may be declared where the other may
pub lean_short : (x y : Ty) → IsLean x y → is_short y ≡ true → is_short x ≡ true
lean_short x y lean short = short_from x (omega (arith, no_longer x y lean, short_most y short))

pub lean_declared : (x y : Ty) → IsLean x y → IsDeclarable y → IsDeclarable x
lean_declared x y lean declared = may_declare x (lean_short x y lean (declared_short y declared)) (still_narrow x y lean (declared_narrow y declared))
