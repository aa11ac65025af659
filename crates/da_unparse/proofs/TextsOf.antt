-- The texts of joined pieces, and of lists of them.
use Rattle.std.specs.Prelude.{ℕ, suc, ◌==◌, nat_lt, true, false, if◌then◌else◌, List, [], ◌∷◌, ◌++◌, codes, map, length}
use Rattle.std.specs.List.{flat_map}
use Rattle.std.proofs.Common.{◌≡◌, refl, ◌∙◌, ap, sym, append_assoc, append-nil, rules, ◌<◌, ◌≤◌}
use Rattle.std.proofs.lemmas.Bool.Decides.{nat_tests}
use Rattle.std.proofs.lemmas.Grind.{flat_map-append}
use Rattle.da_values.specs.declared.token.Mark.{Mark}
use Rattle.da_values.specs.declared.token.Mark.TheVariants as m
use Rattle.da_lang.specs.declared.tree.Expr.{Expr}
use Rattle.da_unparse.specs.Expressions.{shown, at_least, all_at_least}
use Rattle.da_unparse.specs.Pieces.{Piece, token, one, piece_text, text_of, joined, each_after, comma, listed, tupled, in_parens}
use Rattle.da_unparse.specs.Texts.{holds, text_at, expr_text, separated, tuple_end}

pub text_of-append : (xs ys : List Piece) → text_of (xs ++ ys) ≡ text_of xs ++ text_of ys
text_of-append xs ys = flat_map-append piece_text xs ys

pub text_of-three : (xs ys zs : List Piece) → text_of (xs ++ ys ++ zs) ≡ text_of xs ++ text_of ys ++ text_of zs
text_of-three xs ys zs = text_of-append (xs ++ ys) zs ∙ ap (λ t. t ++ text_of zs) (text_of-append xs ys)

pub behind_is : {A : Type 0} (separator : List Piece) (f : A → List Piece) (xs : List A)
    → text_of (each_after separator (map f xs)) ≡ flat_map (λ y. text_of separator ++ text_of (f y)) xs
behind_is separator f [] = refl
behind_is separator f (x ∷ xs) = rw (text_of-append (separator ++ f x) (each_after separator (map f xs)), text_of-append separator (f x), behind_is separator f xs) refl

pub joined_is : {A : Type 0} (separator : List Piece) (f : A → List Piece) (xs : List A)
    → text_of (joined separator (map f xs)) ≡ separated (text_of separator) (λ y. text_of (f y)) xs
joined_is separator f [] = refl
joined_is separator f (x ∷ xs) = text_of-append (f x) (each_after separator (map f xs)) ∙ ap (λ t. text_of (f x) ++ t) (behind_is separator f xs)

pub bracketed_is : (front back : List ℕ) (k l : Mark) (ps : List Piece) → text_of (one k front ++ ps ++ one l back) ≡ front ++ text_of ps ++ back
bracketed_is front back k l ps = rw (text_of-append (token k front ∷ ps) (one l back), append-nil back) refl

pub in_parens_is : (ps : List Piece) → text_of (in_parens ps) ≡ codes "(" ++ text_of ps ++ codes ")"
in_parens_is ps = bracketed_is (codes "(") (codes ")") m.OpenParen m.CloseParen ps

not_one : (n : ℕ) → (suc (suc n) == 1) ≡ false
not_one n = search (rules, nat_tests)

tuple_end-other : (n : ℕ) → tuple_end (suc (suc n)) ≡ codes ")"
unfolding tuple_end
tuple_end-other n = ap (λ b. if b then codes ",)" else codes ")") (not_one n)

pub tupled_is : {A : Type 0} (f : A → List Piece) (xs : List A)
    → text_of (tupled (map f xs)) ≡ codes "(" ++ separated (codes ", ") (λ y. text_of (f y)) xs ++ tuple_end (length xs)
unfolding tuple_end
tupled_is f [] = refl
tupled_is f (x ∷ []) =
    ap (λ t. 40 ∷ t) (text_of-append (f x ++ one m.Comma (codes ",")) (one m.CloseParen (codes ")")) ∙ ap (λ t. t ++ codes ")") (text_of-append (f x) (one m.Comma (codes ",")))
    ∙ append_assoc (text_of (f x)) (codes ",") (codes ")") ∙ ap (λ t. t ++ codes ",)") (sym (append-nil (text_of (f x)))))
tupled_is f (x ∷ (y ∷ ys)) = in_parens_is (listed (map f (x ∷ y ∷ ys))) ∙ ap (λ t. codes "(" ++ t ++ codes ")") (joined_is comma f (x ∷ y ∷ ys))
    ∙ ap (λ t. codes "(" ++ separated (codes ", ") (λ y. text_of (f y)) (x ∷ y ∷ ys) ++ t) (sym (tuple_end-other (length ys)))

pub operands_are : (asked : ℕ) (xs : List Expr) → all_at_least asked (map shown xs) ≡ map (λ x. at_least asked (shown x)) xs
operands_are asked [] = refl
operands_are asked (x ∷ xs) = ap (λ t. at_least asked (shown x) ∷ t) (operands_are asked xs)

below_true : (a b : ℕ) → a < b → nat_lt a b ≡ true
below_true a b h = search (rules, h)

below_false : (a b : ℕ) → b ≤ a → nat_lt a b ≡ false
below_false a b h = search (rules, h)

-- an expression where a place asks for more than it holds, or not
pub text_at-put_in : (asked : ℕ) (x : Expr) → holds x < asked → text_at asked x ≡ codes "(" ++ expr_text x ++ codes ")"
unfolding holds text_at expr_text at_least
text_at-put_in asked x less = ap (λ b. text_of (if b then in_parens (shown x).pieces else (shown x).pieces)) (below_true (shown x).holds asked less) ∙ in_parens_is (shown x).pieces

pub text_at-as_is : (asked : ℕ) (x : Expr) → asked ≤ holds x → text_at asked x ≡ expr_text x
unfolding holds text_at expr_text at_least
text_at-as_is asked x enough = ap (λ b. text_of (if b then in_parens (shown x).pieces else (shown x).pieces)) (below_false (shown x).holds asked enough)
