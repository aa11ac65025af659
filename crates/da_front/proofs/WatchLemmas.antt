-- From what is read of the text of a watch to what is said of it.
use Rattle.std.proofs.Common.{◌≡◌, refl, sym, ◌∙◌, ap, subst, ℕ, ◌+◌, ◌-◌, ◌<◌, ◌≤◌, Bool, true, false, List, [], ◌∷◌, ◌++◌, codes, length, get_or, arith}
use Rattle.std.specs.Prelude.{◌&&◌, if◌then◌else◌, Option, Some, None, Ok, decimal, drop, take}
use Rattle.std.specs.List.{list_all}
use Rattle.std.proofs.lemmas.List.{drop_all, drop_more, take_rest}
use Rattle.da_values.specs.declared.token.Token.{Token}
use Rattle.da_values.specs.Tokens.{tokens}
use Rattle.da_lang.specs.declared.program.Program.{Program}
use Rattle.da_lang.specs.declared.tree.MainLine.{MainLine}
use Rattle.da_lang.specs.declared.tree.Tree.{Tree}
use Rattle.da_front.specs.declared.refusal.ProgramFault.{ProgramFault}
use Rattle.da_front.specs.declared.refusal.ProgramFault.TheVariants as fault
use Rattle.da_front.specs.Verdict.{Accepts, HasTree, IsRefusedAs}
use Rattle.da_front.specs.WatchText.{AcceptsBeside, HasOtherMain, IsBeside, IsNoWatchAs, beside, by_itself, class_end, is_new, is_one, is_setup, line_of_main, makes_one, odd_in, odd_line, second_end, text_with}

-- a text that is refused by itself
pub refused_itself : (text : List ℕ) (count : ℕ) (why : ProgramFault) → IsRefusedAs text why → IsNoWatchAs text count why
refused_itself text count (fault.Refused kind line) is = by_itself kind line is
refused_itself text count fault.Memory is = tt

-- or beside so many
pub refused_beside : (text other slice : List ℕ) (count : ℕ) (why : ProgramFault) → IsBeside text count other → slice ≡ other → IsRefusedAs slice why → IsNoWatchAs text count why
refused_beside text other slice count (fault.Refused kind line) is same refused = beside other kind line is (subst (λ t. IsRefusedAs t (fault.Refused kind line)) same refused)
refused_beside text other slice count fault.Memory is same refused = tt

pub accepts_beside : (text other slice : List ℕ) (count : ℕ) (program : Program) → IsBeside text count other → slice ≡ other → Accepts slice program → length program.procs ≡ count + 1 → AcceptsBeside text count program
accepts_beside text other slice count program is same accepts more = record { other = other; beside = is; accepts = subst (λ t. Accepts t program) same accepts; more = more }

pub has_other_main : (text : List ℕ) (tree : Tree) (lines : List MainLine) (one : Bool) (line : ℕ) → HasTree text tree → lines ≡ tree.main → one ≡ makes_one lines → one ≡ false → line ≡ odd_line lines → HasOtherMain text line
has_other_main text tree lines one line has same is never line_is = record {
  tree = tree;
  has = has;
  other = ap makes_one (sym same) ∙ sym is ∙ never;
  line_is = line_is ∙ ap odd_line same;
}

pub is_beside : (text : List ℕ) (count : ℕ) (tree : Tree) (lines : List MainLine) (one : Bool) (list slice : List Token) (found : Option ℕ) (place : ℕ) (other : List ℕ) → HasTree text tree → lines ≡ tree.main → one ≡ makes_one lines
    → one ≡ true → tokens text ≡ Ok list → slice ≡ list → found ≡ class_end text slice → found ≡ Some place → other ≡ text_with count place text → IsBeside text count other
is_beside text count tree lines one list slice found place other has same is it lexed also found_is there other_is = record {
  tree = tree;
  has = has;
  one = ap makes_one (sym same) ∙ sym is ∙ it;
  list = list;
  lexed = lexed;
  place = place;
  there = ap (class_end text) (sym also) ∙ sym found_is ∙ there;
  is = other_is;
}

-- the pieces of the text, one after the other
pub text_of_pieces : (text front back : List ℕ) (count number place : ℕ) (none a b c d : List ℕ) → front ≡ take place text → back ≡ drop place text → none ≡ [] → number ≡ count → a ≡ none ++ front → b ≡ a ++ codes ", "
    → c ≡ b ++ decimal (number + 1) → d ≡ c ++ back → d ≡ text_with count place text
text_of_pieces text front back count number place none a b c d front_is back_is empty same first second third fourth =
    fourth ∙ ap (λ xs. xs ++ back) (third ∙ ap (λ n. b ++ decimal (n + 1)) same ∙ ap (λ xs. xs ++ decimal (count + 1)) (second ∙ ap (λ xs. xs ++ codes ", ") (first ∙ ap (λ xs. xs ++ front) empty ∙ front_is))) ∙ ap (λ xs. take place text ++ codes ", " ++ decimal (count + 1) ++ xs) back_is

-- THE LINES OF MAIN, the first of them and the others

pub makes_none : (main : List MainLine) → length main < 1 → false ≡ makes_one main
makes_none [] few = refl
makes_none (x ∷ xs) few = absurd (omega (arith, few))

pub makes_other : (main : List MainLine) (first : MainLine) → 1 ≤ length main → first ≡ get_or main 0 first → is_one first ≡ false → false ≡ makes_one main
makes_other [] first some here never = absurd (omega (arith, some))
makes_other (x ∷ xs) first some here never = sym (ap (λ b. b && list_all is_setup xs) (ap is_one (sym here) ∙ never))

pub makes_so : (main : List MainLine) (first : MainLine) (b : Bool) → 1 ≤ length main → first ≡ get_or main 0 first → is_one first ≡ true → b ≡ list_all is_setup (take (length main - 1) (drop 1 main)) → b ≡ makes_one main
makes_so [] first b some here is others = absurd (omega (arith, some))
makes_so (x ∷ xs) first b some here is others =
    others ∙ ap (list_all is_setup) (take_rest (x ∷ xs) 1) ∙ ap (λ t. t && list_all is_setup xs) (sym (ap is_one (sym here) ∙ is))

pub odd_none : (main : List MainLine) → length main < 1 → 0 ≡ odd_line main
odd_none [] few = refl
odd_none (x ∷ xs) few = absurd (omega (arith, few))

pub odd_from : (main : List MainLine) (first : MainLine) (line odd : ℕ) → 1 ≤ length main → first ≡ get_or main 0 first → line ≡ line_of_main first → odd ≡ odd_in line (take (length main - 1) (drop 1 main)) → odd ≡ odd_line main
odd_from [] first line odd some here is others = absurd (omega (arith, some))
odd_from (x ∷ xs) first line odd some here is others =
    others ∙ ap (odd_in line) (take_rest (x ∷ xs) 1) ∙ ap (λ n. odd_in n xs) (is ∙ ap line_of_main here)

-- a line that sets something up, and one that does not
at_line : (xs : List MainLine) (i : ℕ) (x : MainLine) → i < length xs → x ≡ get_or xs i x → drop i xs ≡ x ∷ drop (i + 1) xs
at_line xs i x inside here = drop_more xs i x inside ∙ ap (λ y. y ∷ drop (i + 1) xs) (sym here)

pub all_on : (xs : List MainLine) (i : ℕ) (x : MainLine) (b : Bool) → i < length xs → x ≡ get_or xs i x → b ≡ is_setup x → b ≡ true → list_all is_setup (drop i xs) ≡ list_all is_setup xs → list_all is_setup (drop (i + 1) xs) ≡ list_all is_setup xs
all_on xs i x b inside here told is before = sym (ap (list_all is_setup) (at_line xs i x inside here) ∙ ap (λ t. t && list_all is_setup (drop (i + 1) xs)) (sym told ∙ is)) ∙ before

pub all_not : (xs : List MainLine) (i : ℕ) (x : MainLine) (b : Bool) → i < length xs → x ≡ get_or xs i x → b ≡ is_setup x → b ≡ false → list_all is_setup (drop i xs) ≡ list_all is_setup xs → false ≡ list_all is_setup xs
all_not xs i x b inside here told is before = sym (ap (list_all is_setup) (at_line xs i x inside here) ∙ ap (λ t. t && list_all is_setup (drop (i + 1) xs)) (sym told ∙ is)) ∙ before

pub all_end : (xs : List MainLine) (i : ℕ) → length xs ≤ i → list_all is_setup (drop i xs) ≡ list_all is_setup xs → true ≡ list_all is_setup xs
all_end xs i end before = sym (ap (list_all is_setup) (drop_all i xs end)) ∙ before

pub odd_on : (first : ℕ) (xs : List MainLine) (i : ℕ) (x : MainLine) (b : Bool) → i < length xs → x ≡ get_or xs i x → b ≡ is_setup x → b ≡ true → odd_in first (drop i xs) ≡ odd_in first xs → odd_in first (drop (i + 1) xs) ≡ odd_in first xs
odd_on first xs i x b inside here told is before =
    sym (ap (odd_in first) (at_line xs i x inside here) ∙ ap (λ t. if t then odd_in first (drop (i + 1) xs) else line_of_main x) (sym told ∙ is)) ∙ before

pub odd_here : (first : ℕ) (xs : List MainLine) (i : ℕ) (x : MainLine) (b : Bool) (line : ℕ) → i < length xs → x ≡ get_or xs i x → b ≡ is_setup x → b ≡ false → line ≡ line_of_main x → odd_in first (drop i xs) ≡ odd_in first xs → line ≡ odd_in first xs
odd_here first xs i x b line inside here told is line_is before =
    line_is ∙ sym (ap (odd_in first) (at_line xs i x inside here) ∙ ap (λ t. if t then odd_in first (drop (i + 1) xs) else line_of_main x) (sym told ∙ is)) ∙ before

pub odd_end : (first : ℕ) (xs : List MainLine) (i : ℕ) → length xs ≤ i → odd_in first (drop i xs) ≡ odd_in first xs → first ≡ odd_in first xs
odd_end first xs i end before = sym (ap (odd_in first) (drop_all i xs end)) ∙ before

-- THE CLASS THAT IS MADE, one token after the other

new_or_not : (text : List ℕ) (y : Token) (ys : List Token) (x : Token) (b is_so : Bool) → x ≡ y → b ≡ is_new text x → b ≡ is_so → (if is_so then second_end ys else class_end text ys) ≡ class_end text (y ∷ ys)
new_or_not text y ys x b is_so here told is = sym (ap (λ t. if t then second_end ys else class_end text ys) (ap (is_new text) (sym here) ∙ sym told ∙ is))

pub class_later : (text : List ℕ) (rest whole : List Token) (x d : Token) (b : Bool) → 1 ≤ length rest → x ≡ get_or rest 0 d → b ≡ is_new text x → b ≡ false → class_end text rest ≡ class_end text whole
    → class_end text (take (length rest - 1) (drop 1 rest)) ≡ class_end text whole
class_later text [] whole x d b some here told is before = absurd (omega (arith, some))
class_later text (y ∷ ys) whole x d b some here told is before = ap (class_end text) (take_rest (y ∷ ys) 1) ∙ new_or_not text y ys x b false here told is ∙ before

pub class_here : (text : List ℕ) (rest whole : List Token) (x d : Token) (b : Bool) (found : Option ℕ) → 1 ≤ length rest → x ≡ get_or rest 0 d → b ≡ is_new text x → b ≡ true → found ≡ second_end (take (length rest - 1) (drop 1 rest)) → class_end text rest ≡ class_end text whole
    → found ≡ class_end text whole
class_here text [] whole x d b found some here told is found_is before = absurd (omega (arith, some))
class_here text (y ∷ ys) whole x d b found some here told is found_is before = found_is ∙ ap second_end (take_rest (y ∷ ys) 1) ∙ new_or_not text y ys x b true here told is ∙ before

pub no_class : (text : List ℕ) (rest whole : List Token) → length rest < 1 → class_end text rest ≡ class_end text whole → ◌≡◌ {A = Option ℕ} None (class_end text whole)
no_class text [] whole few before = before
no_class text (y ∷ ys) whole few before = absurd (omega (arith, few))
