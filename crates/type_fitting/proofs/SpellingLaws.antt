-- Each type whose tuples have parts is spelled by some tokens.
use Rattle.std.specs.Prelude.{◌≡◌, refl, ℕ, zero, suc, ◌<◌, codes, true, ◌&&◌, List, [], ◌∷◌, map, length}
use Rattle.std.specs.List.{list_all, AllByRecursion}
use Rattle.std.proofs.Common.{◌∙◌, sym, arith}
use Rattle.std.proofs.lemmas.Bool.{false≢true, and_parts}
use Rattle.da_values.specs.declared.token.Mark.{Mark}
use Rattle.da_values.specs.declared.token.Mark.TheVariants as m
use Rattle.da_values.specs.declared.token.TokenKind.TheVariants as kind
use Rattle.da_values.specs.Marks.{Tok}
use Rattle.da_values.specs.Nesting.{deepest}
use Rattle.da_values.specs.Piece.{piece, name_kind}
use Rattle.da_values.specs.Words.{words, symbols}
use Rattle.da_lang.specs.declared.ty.Ty.{Ty}
use Rattle.da_lang.specs.declared.ty.Ty.TheVariants as t
use Rattle.da_lang.specs.Spelling.{Room, IsSpelled, spelled, At, Opens, Separated, Closed}
use Rattle.da_lang.specs.TypeGrammar.{IsType, TypeIn}
use Rattle.da_lang.specs.Types.{levels}
use Rattle.da_lang.proofs.WorldLaws.{ty_induction}
use Rattle.da_lang.proofs.typing.TypesAt.{levels-Tuple, levels-Set}
use Rattle.type_fitting.specs.Narrow.{is_few, narrow}
use Rattle.type_fitting.proofs.NarrowLaws.{narrow_tuple, narrow_set}

abbrev token : Mark → List ℕ → Tok
token mark text = record { mark = mark; text = text; line = 0 }

abbrev int_token : Tok
int_token = token m.Int (codes "int")

int_spelled : IsSpelled int_token
unfolding piece name_kind words
int_spelled = spelled kind.Word refl refl

abbrev bool_token : Tok
bool_token = token m.Bool (codes "bool")

bool_spelled : IsSpelled bool_token
unfolding piece name_kind words
bool_spelled = spelled kind.Word refl refl

abbrev str_token : Tok
str_token = token m.Str (codes "str")

str_spelled : IsSpelled str_token
unfolding piece name_kind words
str_spelled = spelled kind.Word refl refl

abbrev proc_token : Tok
proc_token = token m.Proc (codes "proc")

proc_spelled : IsSpelled proc_token
unfolding piece name_kind words
proc_spelled = spelled kind.Word refl refl

abbrev set_token : Tok
set_token = token m.Set (codes "set")

set_spelled : IsSpelled set_token
unfolding piece name_kind words
set_spelled = spelled kind.Word refl refl

abbrev open_bracket : Tok
open_bracket = token m.OpenBracket (codes "[")

open_bracket_spelled : IsSpelled open_bracket
unfolding piece symbols
open_bracket_spelled = spelled kind.Symbol refl refl

abbrev close_bracket : Tok
close_bracket = token m.CloseBracket (codes "]")

close_bracket_spelled : IsSpelled close_bracket
unfolding piece symbols
close_bracket_spelled = spelled kind.Symbol refl refl

abbrev open_paren : Tok
open_paren = token m.OpenParen (codes "(")

open_paren_spelled : IsSpelled open_paren
unfolding piece symbols
open_paren_spelled = spelled kind.Symbol refl refl

abbrev close_paren : Tok
close_paren = token m.CloseParen (codes ")")

close_paren_spelled : IsSpelled close_paren
unfolding piece symbols
close_paren_spelled = spelled kind.Symbol refl refl

abbrev comma : Tok
comma = token m.Comma (codes ",")

comma_spelled : IsSpelled comma
unfolding piece symbols
comma_spelled = spelled kind.Symbol refl refl

-- however many things are open
abbrev pub anywhere : ℕ → Room
anywhere d tokens = Unit {0}

abbrev pub AreSpelled : List Tok → Type 0
AreSpelled tokens = AllByRecursion IsSpelled tokens

-- there are tokens that spell it before any others
abbrev IsBefore : ℕ → ℕ → Ty → List Tok → Type 0
IsBefore f d x r = (tokens : List Tok) × AreSpelled tokens × TypeIn anywhere f d x tokens r

abbrev CanSpell : Ty → Type 0
CanSpell x = narrow x ≡ true → (f d : ℕ) → levels x < f → (r : List Tok) → AreSpelled r → IsBefore f d x r

int_before : (f d : ℕ) → levels t.Int < f → (r : List Tok) → AreSpelled r → IsBefore f d t.Int r
unfolding TypeIn
int_before zero d deep r rest = absurd (omega (arith, deep))
int_before (suc f) d deep r rest = (int_token ∷ r, (int_spelled, rest), IsType.int (At.at refl))

bool_before : (f d : ℕ) → levels t.Bool < f → (r : List Tok) → AreSpelled r → IsBefore f d t.Bool r
unfolding TypeIn
bool_before zero d deep r rest = absurd (omega (arith, deep))
bool_before (suc f) d deep r rest = (bool_token ∷ r, (bool_spelled, rest), IsType.bool (At.at refl))

text_before : (f d : ℕ) → levels t.Text < f → (r : List Tok) → AreSpelled r → IsBefore f d t.Text r
unfolding TypeIn
text_before zero d deep r rest = absurd (omega (arith, deep))
text_before (suc f) d deep r rest = (str_token ∷ r, (str_spelled, rest), IsType.str (At.at refl))

proc_before : (f d : ℕ) → levels t.Proc < f → (r : List Tok) → AreSpelled r → IsBefore f d t.Proc r
unfolding TypeIn
proc_before zero d deep r rest = absurd (omega (arith, deep))
proc_before (suc f) d deep r rest = (proc_token ∷ r, (proc_spelled, rest), IsType.proc (At.at refl))

set_before : (element : Ty) → CanSpell element → narrow (t.Set element) ≡ true → (f d : ℕ) → levels (t.Set element) < f → (r : List Tok) → AreSpelled r → IsBefore f d (t.Set element) r
unfolding TypeIn
set_before element can small zero d deep r rest = absurd (omega (arith, deep))
set_before element can small (suc f) d deep r rest =
    let (tokens, spelt, is) = can (sym (narrow_set element) ∙ small) f (suc d) (omega (arith, deep, levels-Set element)) (close_bracket ∷ r) (close_bracket_spelled, rest) in
    (set_token ∷ open_bracket ∷ tokens, (set_spelled, (open_bracket_spelled, spelt)), IsType.set (At.at refl) (Opens.opens tt (At.at refl)) is (At.at refl))

-- parts with commas between
one_more : (f d : ℕ) (x : Ty) (xs : List Ty) (tokens others r : List Tok) → TypeIn anywhere f d x tokens (comma ∷ others) → Separated m.Comma (TypeIn anywhere f d) xs others r → Separated m.Comma (TypeIn anywhere f d) (x ∷ xs) tokens r
one_more f d x xs tokens others r is rest = Separated.more is (At.at refl) rest

is_tuple : (f d : ℕ) (x : Ty) (xs : List Ty) (tokens others r : List Tok) → TypeIn anywhere f (suc d) x tokens (comma ∷ others) → Closed m.CloseParen (TypeIn anywhere f (suc d)) xs others r
    → IsType (anywhere d) (TypeIn anywhere f (suc d)) (t.Tuple (x ∷ xs)) (open_paren ∷ tokens) r
is_tuple f d x xs tokens others r is rest = IsType.tuple (Opens.opens tt (At.at refl)) is (At.at refl) rest

separated_before : (f d : ℕ) (x : Ty) (xs : List Ty) → CanSpell x → AllByRecursion CanSpell xs → narrow x ≡ true → list_all narrow xs ≡ true → levels x < f → deepest (map levels xs) < f → (r : List Tok) → AreSpelled r
    → (tokens : List Tok) × AreSpelled tokens × Separated m.Comma (TypeIn anywhere f d) (x ∷ xs) tokens r
separated_before f d x [] can cans small smalls deep deeps r rest =
    let (tokens, spelt, is) = can small f d deep r rest in
    (tokens, spelt, Separated.last is)
separated_before f d x (y ∷ ys) can cans small smalls deep deeps r rest =
    let both = and_parts (narrow y) (list_all narrow ys) smalls in
    let (others, others_spelt, others_are) = separated_before f d y ys cans.0 cans.1 both.0 both.1 (omega (arith, deeps)) (omega (arith, deeps)) r rest in
    let (tokens, spelt, is) = can small f d deep (comma ∷ others) (comma_spelled, others_spelt) in
    (tokens, spelt, one_more f d x (y ∷ ys) tokens others r is others_are)

closed_before : (f d : ℕ) (xs : List Ty) → AllByRecursion CanSpell xs → list_all narrow xs ≡ true → deepest (map levels xs) < f → (r : List Tok) → AreSpelled r
    → (tokens : List Tok) × AreSpelled tokens × Closed m.CloseParen (TypeIn anywhere f d) xs tokens r
closed_before f d [] cans smalls deeps r rest = (close_paren ∷ r, (close_paren_spelled, rest), Closed.empty (At.at refl))
closed_before f d (x ∷ xs) cans smalls deeps r rest =
    let both = and_parts (narrow x) (list_all narrow xs) smalls in
    let (tokens, spelt, are) = separated_before f d x xs cans.0 cans.1 both.0 both.1 (omega (arith, deeps)) (omega (arith, deeps)) (close_paren ∷ r) (close_paren_spelled, rest) in
    (tokens, spelt, Closed.full are (At.at refl))

tuple_before : (parts : List Ty) → AllByRecursion CanSpell parts → narrow (t.Tuple parts) ≡ true → (f d : ℕ) → levels (t.Tuple parts) < f → (r : List Tok) → AreSpelled r → IsBefore f d (t.Tuple parts) r
unfolding TypeIn
tuple_before parts cans small zero d deep r rest = absurd (omega (arith, deep))
tuple_before [] cans small (suc f) d deep r rest = absurd (false≢true (sym (narrow_tuple []) ∙ small))
tuple_before (x ∷ xs) cans small (suc f) d deep r rest =
    let all = and_parts (is_few (length (x ∷ xs))) (narrow x && list_all narrow xs) (sym (narrow_tuple (x ∷ xs)) ∙ small) in
    let both = and_parts (narrow x) (list_all narrow xs) all.1 in
    let (others, others_spelt, others_are) = closed_before f (suc d) xs cans.1 both.1 (omega (arith, deep, levels-Tuple (x ∷ xs))) r rest in
    let (tokens, spelt, is) = cans.0 both.0 f (suc d) (omega (arith, deep, levels-Tuple (x ∷ xs))) (comma ∷ others) (comma_spelled, others_spelt) in
    (open_paren ∷ tokens, (open_paren_spelled, spelt), is_tuple f d x xs tokens others r is others_are)

pub can_spell : (x : Ty) → CanSpell x
can_spell =
    ty_induction CanSpell
    (λ small. int_before)
    (λ small. bool_before)
    (λ small. text_before)
    (λ small. proc_before)
    tuple_before
    set_before
