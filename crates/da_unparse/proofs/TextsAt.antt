-- The text of an expression, a pattern and a type, one layer at a time.
use Rattle.std.specs.Prelude.{ℕ, suc, decimal, ℤ, pos, negsuc, Bool, true, false, if◌then◌else◌, List, [], ◌∷◌, ◌++◌, codes, map, length, Option, Some, None}
use Rattle.std.specs.Fmt.{signed_decimal}
use Rattle.std.specs.List.{flat_map}
use Rattle.std.specs.Option.{option_map}
use Rattle.std.proofs.Common.{◌≡◌, refl, ◌∙◌, ap, sym, append_assoc, append-nil}
use Rattle.da_values.specs.declared.token.Mark.TheVariants as m
use Rattle.da_lang.specs.declared.tree.ChainTree.{ChainTree, out-ChainTree, roll-out-ChainTree}
use Rattle.da_lang.specs.declared.tree.CmpOp.{CmpOp}
use Rattle.da_lang.specs.declared.tree.Expr.{Expr}
use Rattle.da_lang.specs.declared.tree.Expr.TheVariants as ex
use Rattle.da_lang.specs.declared.tree.GenTree.{GenTree, out-GenTree, roll-out-GenTree}
use Rattle.da_lang.specs.declared.tree.PatternTree.{PatternTree}
use Rattle.da_lang.specs.declared.tree.PatternTree.TheVariants as pattern
use Rattle.da_lang.specs.declared.tree.PeerTree.{PeerTree}
use Rattle.da_lang.specs.declared.tree.PeerTree.TheVariants as other
use Rattle.da_lang.specs.declared.ty.Ty.{Ty}
use Rattle.da_lang.specs.declared.ty.Ty.TheVariants as ty
use Rattle.da_unparse.specs.Expressions.{Shown, Link, quantified, either, both, negation, comparison, sum, product, signed, is_sum, at_least, all_at_least, chain, linked, quantifier, condition, peer, source, truth, cmp_text, op_text, shown, pattern_pieces, peer_pieces, link_of, gen_pieces, type_pieces}
use Rattle.da_unparse.specs.Pieces.{Piece, gap, between, colon, comma, text_of, in_parens, joined, listed, tupled, number}
use Rattle.da_unparse.specs.Texts.{holds, text_at, expr_text, pattern_text, peer_text, gen_text, type_text, op_word, cmp_word, source_text, asked_by, held_by, link_text, separated, tuple_end, quantifier_text, truth_text, condition_text, other_text, one_argument}
use Rattle.da_unparse.proofs.ShownAt as at
use Rattle.da_unparse.proofs.TextsOf.{text_of-append, text_of-three, bracketed_is, in_parens_is, joined_is, tupled_is, operands_are}

pub number_is : (n : ℤ) → text_of (number n) ≡ signed_decimal n
number_is (pos n) = append-nil (decimal n)
number_is (negsuc n) = ap (λ t. 45 ∷ t) (append-nil (decimal (suc n)))

quantifier_is : (each : Bool) → text_of (quantifier each) ≡ quantifier_text each
unfolding quantifier_text
quantifier_is false = refl
quantifier_is true = refl

truth_is : (b : Bool) → text_of (truth b) ≡ truth_text b
unfolding truth_text
truth_is false = refl
truth_is true = refl

condition_is : (cond : Option Expr) → text_of (condition (option_map shown cond)) ≡ condition_text cond
unfolding expr_text condition_text
condition_is None = refl
condition_is (Some x) = refl

gens_are : (gens : List GenTree) → text_of (listed (map gen_pieces gens)) ≡ separated (codes ", ") gen_text gens
unfolding gen_text
gens_are gens = joined_is comma gen_pieces gens

spaced : (ps : List Piece) (mid back : List ℕ) → text_of (ps ++ colon) ++ 32 ∷ mid ++ back ≡ text_of ps ++ codes ": " ++ mid ++ back
spaced ps mid back = ap (λ t. t ++ back) (ap (λ t. t ++ 32 ∷ mid) (text_of-append ps colon) ∙ append_assoc (text_of ps) (codes ":") (32 ∷ mid) ∙ sym (append_assoc (text_of ps) (codes ": ") mid))

pub expr_text-Quant : (each : Bool) (gens : List GenTree) (cond : Option Expr) → expr_text (ex.Quant each gens cond) ≡ quantifier_text each ++ separated (codes ", ") gen_text gens ++ condition_text cond
unfolding expr_text text_at gen_text
expr_text-Quant each gens cond = ap (λ s. text_of s.pieces) (at.shown-Quant each gens cond) ∙ text_of-three (quantifier each) (listed (map gen_pieces gens)) (condition (option_map shown cond))
    ∙ rw (quantifier_is each, gens_are gens, condition_is cond) refl

pub expr_text-Or : (xs : List Expr) → expr_text (ex.Or xs) ≡ separated (codes " or ") (text_at both) xs
unfolding expr_text text_at gen_text
expr_text-Or xs = ap (λ s. text_of s.pieces) (at.shown-Or xs) ∙ ap (λ pss. text_of (joined (between m.Or (codes "or")) pss)) (operands_are both xs)
    ∙ joined_is (between m.Or (codes "or")) (λ x. at_least both (shown x)) xs

pub expr_text-And : (xs : List Expr) → expr_text (ex.And xs) ≡ separated (codes " and ") (text_at negation) xs
unfolding expr_text text_at gen_text
expr_text-And xs = ap (λ s. text_of s.pieces) (at.shown-And xs) ∙ ap (λ pss. text_of (joined (between m.And (codes "and")) pss)) (operands_are negation xs)
    ∙ joined_is (between m.And (codes "and")) (λ x. at_least negation (shown x)) xs

pub expr_text-Not : (x : Expr) → expr_text (ex.Not x) ≡ codes "not " ++ text_at negation x
unfolding expr_text text_at gen_text
expr_text-Not x = ap (λ s. text_of s.pieces) (at.shown-Not x)

pub expr_text-Cmp : (op : CmpOp) (x y : Expr) → expr_text (ex.Cmp op x y) ≡ text_at sum x ++ cmp_word op ++ text_at sum y
unfolding expr_text text_at cmp_word
expr_text-Cmp op x y = ap (λ s. text_of s.pieces) (at.shown-Cmp op x y) ∙ text_of-three (at_least sum (shown x)) (cmp_text op) (at_least sum (shown y))

pub expr_text-Member : (x y : Expr) → expr_text (ex.Member x y) ≡ text_at sum x ++ codes " in " ++ text_at sum y
unfolding expr_text text_at gen_text
expr_text-Member x y = ap (λ s. text_of s.pieces) (at.shown-Member x y) ∙ text_of-three (at_least sum (shown x)) (between m.In (codes "in")) (at_least sum (shown y))

pub expr_text-Int : (n : ℤ) → expr_text (ex.Int n) ≡ signed_decimal n
unfolding expr_text text_at gen_text
expr_text-Int n = ap (λ s. text_of s.pieces) (at.shown-Int n) ∙ number_is n

pub expr_text-Text : (bytes : List ℕ) → expr_text (ex.Text bytes) ≡ codes "'" ++ bytes ++ codes "'"
unfolding expr_text text_at gen_text
expr_text-Text bytes = ap (λ s. text_of s.pieces) (at.shown-Text bytes) ∙ append-nil (codes "'" ++ bytes ++ codes "'")

pub expr_text-Truth : (b : Bool) → expr_text (ex.Truth b) ≡ truth_text b
unfolding expr_text text_at gen_text
expr_text-Truth b = ap (λ s. text_of s.pieces) (at.shown-Truth b) ∙ truth_is b

pub expr_text-Me : expr_text ex.Me ≡ codes "self"
unfolding expr_text text_at gen_text
expr_text-Me = ap (λ s. text_of s.pieces) at.shown-Me

pub expr_text-Name : (bytes : List ℕ) → expr_text (ex.Name bytes) ≡ bytes
unfolding expr_text text_at gen_text
expr_text-Name bytes = ap (λ s. text_of s.pieces) (at.shown-Name bytes) ∙ append-nil bytes

pub expr_text-Clock : expr_text ex.Clock ≡ codes "logical_time()"
unfolding expr_text text_at gen_text
expr_text-Clock = ap (λ s. text_of s.pieces) at.shown-Clock

call_one : (bytes : List ℕ) (x : Expr) → bytes ++ text_of (in_parens (listed (all_at_least either (shown x ∷ [])))) ≡ bytes ++ one_argument x
unfolding one_argument text_at
call_one bytes x = ap (λ t. bytes ++ t) (in_parens_is (at_least either (shown x) ++ []) ∙ rw (append-nil (at_least either (shown x))) refl)

call_two : (bytes : List ℕ) (x y : Expr) → bytes ++ text_of (in_parens (listed (all_at_least either (shown x ∷ shown y ∷ [])))) ≡ bytes ++ (codes "(" ++ text_at either x ++ codes ", " ++ text_at either y ++ codes ")")
unfolding text_at
call_two bytes x y =
    let first = at_least either (shown x) in
    let second = at_least either (shown y) in
    ap (λ t. bytes ++ t) (in_parens_is (first ++ (comma ++ second ++ [])) ∙ ap (λ t. codes "(" ++ t ++ codes ")") (text_of-append first (comma ++ second ++ []) ∙ ap (λ t. text_of first ++ (codes ", " ++ text_of t)) (append-nil second)
    ∙ sym (append_assoc (text_of first) (codes ", ") (text_of second))))

pub expr_text-Range : (x y : Expr) → expr_text (ex.Range x y) ≡ codes "range(" ++ text_at either x ++ codes ", " ++ text_at either y ++ codes ")"
unfolding expr_text text_at gen_text
expr_text-Range x y = ap (λ s. text_of s.pieces) (at.shown-Range x y) ∙ call_two (codes "range") x y

pub expr_text-Min : (x y : Expr) → expr_text (ex.Min x y) ≡ codes "min(" ++ text_at either x ++ codes ", " ++ text_at either y ++ codes ")"
unfolding expr_text text_at gen_text
expr_text-Min x y = ap (λ s. text_of s.pieces) (at.shown-Min x y) ∙ call_two (codes "min") x y

pub expr_text-Max : (x y : Expr) → expr_text (ex.Max x y) ≡ codes "max(" ++ text_at either x ++ codes ", " ++ text_at either y ++ codes ")"
unfolding expr_text text_at gen_text
expr_text-Max x y = ap (λ s. text_of s.pieces) (at.shown-Max x y) ∙ call_two (codes "max") x y

pub expr_text-Count : (x : Expr) → expr_text (ex.Count x) ≡ codes "count" ++ one_argument x
unfolding expr_text text_at gen_text
expr_text-Count x = ap (λ s. text_of s.pieces) (at.shown-Count x) ∙ call_one (codes "count") x

pub expr_text-Sum : (x : Expr) → expr_text (ex.Sum x) ≡ codes "sum" ++ one_argument x
unfolding expr_text text_at gen_text
expr_text-Sum x = ap (λ s. text_of s.pieces) (at.shown-Sum x) ∙ call_one (codes "sum") x

pub expr_text-Tuple : (xs : List Expr) → expr_text (ex.Tuple xs) ≡ codes "(" ++ separated (codes ", ") (text_at either) xs ++ tuple_end (length xs)
unfolding expr_text text_at gen_text
expr_text-Tuple xs = ap (λ s. text_of s.pieces) (at.shown-Tuple xs) ∙ ap (λ pss. text_of (tupled pss)) (operands_are either xs) ∙ tupled_is (λ x. at_least either (shown x)) xs

pub expr_text-SetOf : (xs : List Expr) → expr_text (ex.SetOf xs) ≡ codes "{" ++ separated (codes ", ") (text_at either) xs ++ codes "}"
unfolding expr_text text_at gen_text
expr_text-SetOf xs = ap (λ s. text_of s.pieces) (at.shown-SetOf xs) ∙ bracketed_is (codes "{") (codes "}") m.OpenBrace m.CloseBrace (listed (all_at_least either (map shown xs)))
    ∙ ap (λ t. codes "{" ++ t ++ codes "}") (ap (λ pss. text_of (listed pss)) (operands_are either xs) ∙ joined_is comma (λ x. at_least either (shown x)) xs)

pub expr_text-Comp : (x : Expr) (gens : List GenTree) (cond : Option Expr) → expr_text (ex.Comp x gens cond) ≡ codes "{" ++ text_at either x ++ codes ": " ++ separated (codes ", ") gen_text gens ++ condition_text cond ++ codes "}"
unfolding expr_text text_at gen_text
expr_text-Comp x gens cond = ap (λ s. text_of s.pieces) (at.shown-Comp x gens cond) ∙ bracketed_is (codes "{") (codes "}") m.OpenBrace m.CloseBrace (at_least either (shown x) ++ colon ++ gap ∷ listed (map gen_pieces gens) ++ condition (option_map shown cond))
    ∙ ap (λ t. codes "{" ++ t ++ codes "}") (text_of-three (at_least either (shown x) ++ colon) (gap ∷ listed (map gen_pieces gens)) (condition (option_map shown cond))
    ∙ rw (gens_are gens, condition_is cond) (spaced (at_least either (shown x)) (separated (codes ", ") gen_text gens) (condition_text cond)))

-- what is printed of a further operand, by its parts
link_is : (c : ChainTree) → link_of c ≡ record { op = (out-ChainTree c).op; operand = shown (out-ChainTree c).operand }
link_is c = ap link_of (sym (roll-out-ChainTree c)) ∙ at.link_at (out-ChainTree c).op (out-ChainTree c).operand

linked_is : (asked : ℕ) (links : List ChainTree) → text_of (linked asked (map link_of links)) ≡ flat_map (link_text asked) links
unfolding link_text op_word text_at
linked_is asked [] = refl
linked_is asked (c ∷ links) =
    rw (link_is c) (text_of-three (op_text (out-ChainTree c).op) (at_least asked (shown (out-ChainTree c).operand)) (linked asked (map link_of links))
    ∙ ap (λ t. text_of (op_text (out-ChainTree c).op) ++ text_of (at_least asked (shown (out-ChainTree c).operand)) ++ t) (linked_is asked links))

pub expr_text-lone : (x : Expr) → expr_text (ex.Chain x []) ≡ expr_text x
unfolding expr_text
expr_text-lone x = ap (λ s. text_of s.pieces) (at.shown-Chain x [])

chain_is : (b : Bool) (x : Expr) (links : List ChainTree)
    → text_of (chain b (shown x) (map link_of links)).pieces ≡ text_at (if b then product else signed) x ++ flat_map (link_text (if b then product else signed)) links
unfolding text_at
chain_is true x links = text_of-append (at_least product (shown x)) (linked product (map link_of links)) ∙ ap (λ t. text_of (at_least product (shown x)) ++ t) (linked_is product links)
chain_is false x links = text_of-append (at_least signed (shown x)) (linked signed (map link_of links)) ∙ ap (λ t. text_of (at_least signed (shown x)) ++ t) (linked_is signed links)

pub expr_text-Chain : (x : Expr) (c : ChainTree) (links : List ChainTree)
    → expr_text (ex.Chain x (c ∷ links)) ≡ text_at (asked_by (out-ChainTree c).op) x ++ flat_map (link_text (asked_by (out-ChainTree c).op)) (c ∷ links)
unfolding expr_text asked_by
expr_text-Chain x c links =
    ap (λ s. text_of s.pieces) (at.shown-Chain x (c ∷ links)) ∙ ap (λ op. text_of (chain (is_sum op) (shown x) (map link_of (c ∷ links))).pieces) (ap (λ l. l.op) (link_is c))
    ∙ chain_is (is_sum (out-ChainTree c).op) x (c ∷ links)

pub holds-Quant : (each : Bool) (gens : List GenTree) (cond : Option Expr) → holds (ex.Quant each gens cond) ≡ quantified
unfolding holds
holds-Quant each gens cond = ap (λ s. s.holds) (at.shown-Quant each gens cond)

pub holds-Or : (xs : List Expr) → holds (ex.Or xs) ≡ either
unfolding holds
holds-Or xs = ap (λ s. s.holds) (at.shown-Or xs)

pub holds-And : (xs : List Expr) → holds (ex.And xs) ≡ both
unfolding holds
holds-And xs = ap (λ s. s.holds) (at.shown-And xs)

pub holds-Not : (x : Expr) → holds (ex.Not x) ≡ negation
unfolding holds
holds-Not x = ap (λ s. s.holds) (at.shown-Not x)

pub holds-Cmp : (op : CmpOp) (x y : Expr) → holds (ex.Cmp op x y) ≡ comparison
unfolding holds
holds-Cmp op x y = ap (λ s. s.holds) (at.shown-Cmp op x y)

pub holds-Member : (x y : Expr) → holds (ex.Member x y) ≡ comparison
unfolding holds
holds-Member x y = ap (λ s. s.holds) (at.shown-Member x y)

pub holds-Int : (n : ℤ) → holds (ex.Int n) ≡ signed
unfolding holds
holds-Int n = ap (λ s. s.holds) (at.shown-Int n)

pub holds-Text : (bytes : List ℕ) → holds (ex.Text bytes) ≡ signed
unfolding holds
holds-Text bytes = ap (λ s. s.holds) (at.shown-Text bytes)

pub holds-Truth : (b : Bool) → holds (ex.Truth b) ≡ signed
unfolding holds
holds-Truth b = ap (λ s. s.holds) (at.shown-Truth b)

pub holds-Me : holds ex.Me ≡ signed
unfolding holds
holds-Me = ap (λ s. s.holds) at.shown-Me

pub holds-Name : (bytes : List ℕ) → holds (ex.Name bytes) ≡ signed
unfolding holds
holds-Name bytes = ap (λ s. s.holds) (at.shown-Name bytes)

pub holds-Clock : holds ex.Clock ≡ signed
unfolding holds
holds-Clock = ap (λ s. s.holds) at.shown-Clock

pub holds-Range : (x y : Expr) → holds (ex.Range x y) ≡ signed
unfolding holds
holds-Range x y = ap (λ s. s.holds) (at.shown-Range x y)

pub holds-Tuple : (xs : List Expr) → holds (ex.Tuple xs) ≡ signed
unfolding holds
holds-Tuple xs = ap (λ s. s.holds) (at.shown-Tuple xs)

pub holds-SetOf : (xs : List Expr) → holds (ex.SetOf xs) ≡ signed
unfolding holds
holds-SetOf xs = ap (λ s. s.holds) (at.shown-SetOf xs)

pub holds-Comp : (x : Expr) (gens : List GenTree) (cond : Option Expr) → holds (ex.Comp x gens cond) ≡ signed
unfolding holds
holds-Comp x gens cond = ap (λ s. s.holds) (at.shown-Comp x gens cond)

pub holds-Count : (x : Expr) → holds (ex.Count x) ≡ signed
unfolding holds
holds-Count x = ap (λ s. s.holds) (at.shown-Count x)

pub holds-Sum : (x : Expr) → holds (ex.Sum x) ≡ signed
unfolding holds
holds-Sum x = ap (λ s. s.holds) (at.shown-Sum x)

pub holds-Min : (x y : Expr) → holds (ex.Min x y) ≡ signed
unfolding holds
holds-Min x y = ap (λ s. s.holds) (at.shown-Min x y)

pub holds-Max : (x y : Expr) → holds (ex.Max x y) ≡ signed
unfolding holds
holds-Max x y = ap (λ s. s.holds) (at.shown-Max x y)

pub holds-lone : (x : Expr) → holds (ex.Chain x []) ≡ holds x
unfolding holds
holds-lone x = ap (λ s. s.holds) (at.shown-Chain x [])

chain_holds : (b : Bool) (x : Shown) (links : List Link) → (chain b x links).holds ≡ (if b then sum else product)
chain_holds true x links = refl
chain_holds false x links = refl

pub holds-Chain : (x : Expr) (c : ChainTree) (links : List ChainTree) → holds (ex.Chain x (c ∷ links)) ≡ held_by (out-ChainTree c).op
unfolding holds held_by
holds-Chain x c links =
    ap (λ s. s.holds) (at.shown-Chain x (c ∷ links)) ∙ chain_holds (is_sum (link_of c).op) (shown x) (map link_of (c ∷ links)) ∙ ap (λ op. if is_sum op then sum else product) (ap (λ l. l.op) (link_is c))

pub pattern_text-Wild : pattern_text pattern.Wild ≡ codes "_"
unfolding pattern_text text_at
pattern_text-Wild = ap text_of at.pattern-Wild

pub pattern_text-Name : (bytes : List ℕ) → pattern_text (pattern.Name bytes) ≡ bytes
unfolding pattern_text text_at
pattern_text-Name bytes = ap text_of (at.pattern-Name bytes) ∙ append-nil bytes

pub pattern_text-Int : (n : ℤ) → pattern_text (pattern.Int n) ≡ signed_decimal n
unfolding pattern_text text_at
pattern_text-Int n = ap text_of (at.pattern-Int n) ∙ number_is n

pub pattern_text-Text : (bytes : List ℕ) → pattern_text (pattern.Text bytes) ≡ codes "'" ++ bytes ++ codes "'"
unfolding pattern_text text_at
pattern_text-Text bytes = ap text_of (at.pattern-Text bytes) ∙ append-nil (codes "'" ++ bytes ++ codes "'")

pub pattern_text-Truth : (b : Bool) → pattern_text (pattern.Truth b) ≡ truth_text b
unfolding pattern_text text_at
pattern_text-Truth b = ap text_of (at.pattern-Truth b) ∙ truth_is b

pub pattern_text-Me : pattern_text pattern.Me ≡ codes "self"
unfolding pattern_text text_at
pattern_text-Me = ap text_of at.pattern-Me

pub pattern_text-Equal : (x : Expr) → pattern_text (pattern.Equal x) ≡ codes "=" ++ text_at signed x
unfolding pattern_text text_at
pattern_text-Equal x = ap text_of (at.pattern-Equal x)

pub pattern_text-Tuple : (ps : List PatternTree) → pattern_text (pattern.Tuple ps) ≡ codes "(" ++ separated (codes ", ") pattern_text ps ++ tuple_end (length ps)
unfolding pattern_text text_at
pattern_text-Tuple ps = ap text_of (at.pattern-Tuple ps) ∙ tupled_is pattern_pieces ps

pub peer_text-From : (p : PatternTree) → peer_text (other.From p) ≡ codes " from " ++ pattern_text p
unfolding peer_text pattern_text
peer_text-From p = ap text_of (at.peer-From p)

pub peer_text-To : (p : PatternTree) → peer_text (other.To p) ≡ codes " to " ++ pattern_text p
unfolding peer_text pattern_text
peer_text-To p = ap text_of (at.peer-To p)

other_is : (o : Option PeerTree) → text_of (peer (option_map peer_pieces o)) ≡ other_text o
unfolding peer_text other_text
other_is None = refl
other_is (Some p) = refl

pub gen_text_of : (g : GenTree) → gen_text g ≡ pattern_text (out-GenTree g).message ++ other_text (out-GenTree g).peer ++ codes " in " ++ source_text (out-GenTree g).source
unfolding gen_text pattern_text source_text
gen_text_of g =
    let v = out-GenTree g in
    ap (λ h. text_of (gen_pieces h)) (sym (roll-out-GenTree g)) ∙ ap text_of (at.gen_at v.message v.peer v.source)
    ∙ text_of-three (pattern_pieces v.message ++ peer (option_map peer_pieces v.peer)) (between m.In (codes "in")) (source v.source)
    ∙ ap (λ t. t ++ codes " in " ++ text_of (source v.source)) (text_of-append (pattern_pieces v.message) (peer (option_map peer_pieces v.peer)) ∙ ap (λ t. text_of (pattern_pieces v.message) ++ t) (other_is v.peer))

pub type_text-Int : type_text ty.Int ≡ codes "int"
unfolding type_text
type_text-Int = ap text_of at.type-Int

pub type_text-Bool : type_text ty.Bool ≡ codes "bool"
unfolding type_text
type_text-Bool = ap text_of at.type-Bool

pub type_text-Text : type_text ty.Text ≡ codes "str"
unfolding type_text
type_text-Text = ap text_of at.type-Text

pub type_text-Proc : type_text ty.Proc ≡ codes "proc"
unfolding type_text
type_text-Proc = ap text_of at.type-Proc

pub type_text-Tuple : (parts : List Ty) → type_text (ty.Tuple parts) ≡ codes "(" ++ separated (codes ", ") type_text parts ++ tuple_end (length parts)
unfolding type_text
type_text-Tuple parts = ap text_of (at.type-Tuple parts) ∙ tupled_is type_pieces parts

pub type_text-Set : (element : Ty) → type_text (ty.Set element) ≡ codes "set[" ++ type_text element ++ codes "]"
unfolding type_text
type_text-Set element = ap text_of (at.type-Set element) ∙ bracketed_is (codes "set[") (codes "]") m.Set m.CloseBracket (type_pieces element)
