-- What is written in expressions and patterns, from what is written in their parts.
use Rattle.std.specs.Prelude.{◌≡◌, refl, ℕ, ℤ, ◌+◌, ◌<◌, max, Bool, true, false, List, [], ◌∷◌, ◌++◌, map, length, sum, flat_map, Option, option_to_list}
use Rattle.std.specs.Option.{option_map}
use Rattle.std.proofs.Common.{◌∙◌, ap, sym, arith, get_or, take}
use Rattle.std.proofs.lemmas.List.{length-map, map-append}
use Rattle.std.proofs.lemmas.List.Sums.{sum_by-cons}
use Rattle.da_lang.specs.declared.tree.ChainTree.{ChainTree, out-ChainTree}
use Rattle.da_lang.specs.declared.tree.CmpOp.{CmpOp}
use Rattle.da_lang.specs.declared.tree.Expr.{Expr}
use Rattle.da_lang.specs.declared.tree.Expr.TheVariants as ex
use Rattle.da_lang.specs.declared.tree.GenTree.{GenTree, out-GenTree}
use Rattle.da_lang.specs.declared.tree.PatternTree.{PatternTree}
use Rattle.da_lang.specs.declared.tree.PatternTree.TheVariants as pattern
use Rattle.da_lang.specs.declared.tree.PeerTree.TheVariants as peer
use Rattle.da_lang.specs.Written as lang
use Rattle.da_lang.specs.Written.{Size, Writing, of, tuple, query, argument, greatest, sizes, writing, pattern_written, peer_written, chain_written, gen_written}
use Rattle.da_lang.proofs.WritingAt as at
use Rattle.da_lang.proofs.Taken.{taken}
use Rattle.da_limits.specs.Capped.{capped}
use Rattle.da_limits.specs.declared.written.Written.{Written}
use Rattle.da_limits.specs.Writings.{seen, counted, named, nothing, beside, as_query, as_tuple, ranged}

-- from its five numbers and its flag
made : (a a' b b' c c' d d' e e' : ℕ) (n n' : Bool) → a ≡ a' → b ≡ b' → c ≡ c' → d ≡ d' → e ≡ e' → n ≡ n'
    → (let x : Written = record { largest = record { gens = a; variables = b }; all = record { gens = c; variables = d }; widest = e; name = n } in x)
    ≡ (let y : Written = record { largest = record { gens = a'; variables = b' }; all = record { gens = c'; variables = d' }; widest = e'; name = n' } in y)
made a a' b b' c c' d d' e e' n n' p q r s t u = cc

-- the greatest and the sum of two lists
greatest-append : {A : Type 0} (f : A → ℕ) (xs ys : List A) → greatest (map f (xs ++ ys)) ≡ max (greatest (map f xs)) (greatest (map f ys))
greatest-append f [] ys = omega arith
greatest-append f (x ∷ xs) ys = omega (arith, greatest-append f xs ys)

sum-append : {A : Type 0} (f : A → ℕ) (xs ys : List A) → sum (map f (xs ++ ys)) ≡ sum (map f xs) + sum (map f ys)
sum-append f [] ys = omega arith
sum-append f (x ∷ xs) ys = omega (arith, sum_by-cons (λ k. k) (f x) (map f (xs ++ ys)), sum_by-cons (λ k. k) (f x) (map f xs), sum-append f xs ys)

abbrev queries_in : List Writing → List Size
queries_in ws = flat_map (λ w. w.queries) ws

most-append : (f : Size → ℕ) (xs ys : List Writing) → greatest (map f (queries_in (xs ++ ys))) ≡ max (greatest (map f (queries_in xs))) (greatest (map f (queries_in ys)))
most-append f [] ys = omega arith
most-append f (x ∷ xs) ys = omega (arith, greatest-append f x.queries (queries_in (xs ++ ys)), greatest-append f x.queries (queries_in xs), most-append f xs ys)

pub of-append : (xs ys : List Writing) → seen (of (xs ++ ys)) ≡ beside (seen (of xs)) (seen (of ys))
unfolding seen beside
of-append xs ys = made _ _ _ _ _ _ _ _ _ _ _ _
    (omega (arith, most-append (λ s. s.gens) xs ys))
    (omega (arith, most-append (λ s. s.variables) xs ys))
    (omega (arith, sum-append (λ w. w.size.gens) xs ys))
    (omega (arith, sum-append (λ w. w.size.variables) xs ys))
    (omega (arith, greatest-append (λ w. w.widest) xs ys))
    refl

pub of-none : seen (of []) ≡ nothing
unfolding seen nothing
of-none = refl

-- one is as it is, but that it is no name
of-one : (x : Writing) (y : Written) → beside y (seen (of (x ∷ []))) ≡ beside y (seen x)
unfolding seen beside
of-one x y = made _ _ _ _ _ _ _ _ _ _ _ _
    (omega (arith, greatest-append (λ (s : Size). s.gens) x.queries []))
    (omega (arith, greatest-append (λ (s : Size). s.variables) x.queries []))
    (omega (arith, sum_by-cons (λ k. k) x.size.gens []))
    (omega (arith, sum_by-cons (λ k. k) x.size.variables []))
    (omega arith)
    refl

of-first : (x : Writing) (y : Written) → beside (seen (of (x ∷ []))) y ≡ beside (seen x) y
unfolding seen beside
of-first x y = made _ _ _ _ _ _ _ _ _ _ _ _
    (omega (arith, greatest-append (λ (s : Size). s.gens) x.queries []))
    (omega (arith, greatest-append (λ (s : Size). s.variables) x.queries []))
    (omega (arith, sum_by-cons (λ k. k) x.size.gens []))
    (omega (arith, sum_by-cons (λ k. k) x.size.variables []))
    (omega arith)
    refl

pub of-more : (xs : List Writing) (y : Writing) → seen (of (xs ++ y ∷ [])) ≡ beside (seen (of xs)) (seen y)
of-more xs y = of-append xs (y ∷ []) ∙ of-one y (seen (of xs))

pub of-lone : (x : Writing) → seen (of (x ∷ [])) ≡ beside nothing (seen x)
of-lone x = of-more [] x ∙ ap (λ y. beside y (seen x)) of-none

of-cons : (x : Writing) (xs : List Writing) → seen (of (x ∷ xs)) ≡ beside (seen x) (seen (of xs))
of-cons x xs = of-append (x ∷ []) xs ∙ of-first x (seen (of xs))

pub of-two : (x y : Writing) → seen (of (x ∷ y ∷ [])) ≡ beside (seen x) (seen y)
of-two x y = of-cons x (y ∷ []) ∙ of-one y (seen x)

-- a query of these parts, a tuple of them
query-of : (xs : List Writing) → seen (query xs) ≡ as_query (seen (of xs))
unfolding seen as_query
query-of xs = made _ _ _ _ _ _ _ _ _ _ _ _ (omega arith) (omega arith) refl refl refl refl

tuple-of : (xs : List Writing) → seen (tuple xs) ≡ as_tuple (capped (length xs)) (seen (of xs))
unfolding seen as_tuple
tuple-of xs = made _ _ _ _ _ _ _ _ _ _ _ _ refl refl refl refl (omega arith) refl

query-one : (x : Writing) → as_query (seen (of (x ∷ []))) ≡ as_query (seen x)
unfolding seen as_query
query-one x = made _ _ _ _ _ _ _ _ _ _ _ _
    (omega (arith, sum_by-cons (λ k. k) x.size.gens [])) (omega (arith, sum_by-cons (λ k. k) x.size.variables []))
    (omega (arith, sum_by-cons (λ k. k) x.size.gens [])) (omega (arith, sum_by-cons (λ k. k) x.size.variables []))
    (omega arith) refl

argument_by : (x : Writing) (b : Bool) → x.name ≡ b → seen (argument x) ≡ ranged (seen x)
unfolding seen ranged counted
argument_by x true is = rw is refl
argument_by x false is = rw is refl

argument-of : (x : Writing) → seen (argument x) ≡ ranged (seen x)
argument-of x = argument_by x x.name refl

-- expressions
abbrev range : List GenTree → Option Expr → List Writing
range gens cond = map gen_written gens ++ option_to_list (option_map writing cond)

ranged-of : (gens : List GenTree) (cond : Option Expr) → seen (of (range gens cond)) ≡ beside (seen (of (map gen_written gens))) (seen (of (option_to_list (option_map writing cond))))
ranged-of gens cond = of-append (map gen_written gens) (option_to_list (option_map writing cond))

pub expr-Quant : (each : Bool) (gens : List GenTree) (cond : Option Expr) → seen (writing (ex.Quant each gens cond)) ≡ as_query (beside (seen (of (map gen_written gens))) (seen (of (option_to_list (option_map writing cond)))))
expr-Quant each gens cond = ap seen (at.writing-Quant each gens cond) ∙ query-of (range gens cond) ∙ ap as_query (ranged-of gens cond)

pub expr-Or : (xs : List Expr) → seen (writing (ex.Or xs)) ≡ seen (of (map writing xs))
expr-Or xs = ap seen (at.writing-Or xs)

pub expr-And : (xs : List Expr) → seen (writing (ex.And xs)) ≡ seen (of (map writing xs))
expr-And xs = ap seen (at.writing-And xs)

pub expr-Not : (x : Expr) → seen (writing (ex.Not x)) ≡ beside nothing (seen (writing x))
expr-Not x = ap seen (at.writing-Not x) ∙ of-lone (writing x)

pub expr-Cmp : (o : CmpOp) (x y : Expr) → seen (writing (ex.Cmp o x y)) ≡ beside (seen (writing x)) (seen (writing y))
expr-Cmp o x y = ap seen (at.writing-Cmp o x y) ∙ of-two (writing x) (writing y)

pub expr-Member : (x y : Expr) → seen (writing (ex.Member x y)) ≡ beside (seen (writing x)) (seen (writing y))
expr-Member x y = ap seen (at.writing-Member x y) ∙ of-two (writing x) (writing y)

pub expr-Chain : (x : Expr) (more : List ChainTree) → seen (writing (ex.Chain x more)) ≡ beside (seen (writing x)) (seen (of (map chain_written more)))
expr-Chain x more = ap seen (at.writing-Chain x more) ∙ of-cons (writing x) (map chain_written more)

pub expr-Int : (number : ℤ) → seen (writing (ex.Int number)) ≡ nothing
expr-Int number = ap seen (at.writing-Int number) ∙ of-none

pub expr-Text : (bytes : List ℕ) → seen (writing (ex.Text bytes)) ≡ nothing
expr-Text bytes = ap seen (at.writing-Text bytes) ∙ of-none

pub expr-Truth : (truth : Bool) → seen (writing (ex.Truth truth)) ≡ nothing
expr-Truth truth = ap seen (at.writing-Truth truth) ∙ of-none

pub expr-Me : seen (writing ex.Me) ≡ nothing
expr-Me = ap seen at.writing-Me ∙ of-none

pub expr-Name : (name : List ℕ) → seen (writing (ex.Name name)) ≡ named nothing
unfolding seen named nothing
expr-Name name = ap seen (at.writing-Name name)

pub expr-Clock : seen (writing ex.Clock) ≡ nothing
unfolding seen nothing
expr-Clock = ap seen at.writing-Clock

pub expr-Range : (x y : Expr) → seen (writing (ex.Range x y)) ≡ beside (seen (writing x)) (seen (writing y))
expr-Range x y = ap seen (at.writing-Range x y) ∙ of-two (writing x) (writing y)

pub expr-Tuple : (xs : List Expr) → seen (writing (ex.Tuple xs)) ≡ as_tuple (capped (length xs)) (seen (of (map writing xs)))
expr-Tuple xs = ap seen (at.writing-Tuple xs) ∙ tuple-of (map writing xs) ∙ ap (λ n. as_tuple (capped n) (seen (of (map writing xs)))) (length-map xs writing)

pub expr-SetOf : (xs : List Expr) → seen (writing (ex.SetOf xs)) ≡ seen (of (map writing xs))
expr-SetOf xs = ap seen (at.writing-SetOf xs)

pub expr-Comp : (x : Expr) (gens : List GenTree) (cond : Option Expr)
    → seen (writing (ex.Comp x gens cond)) ≡ as_query (beside (beside (seen (of (map gen_written gens))) (seen (of (option_to_list (option_map writing cond))))) (seen (writing x)))
expr-Comp x gens cond =
    ap seen (at.writing-Comp x gens cond) ∙ query-of (range gens cond ++ writing x ∷ [])
    ∙ ap as_query (of-more (range gens cond) (writing x) ∙ ap (λ y. beside y (seen (writing x))) (ranged-of gens cond))

aggregate-of : (x : Writing) → seen (query (argument x ∷ [])) ≡ as_query (ranged (seen x))
aggregate-of x = query-of (argument x ∷ []) ∙ query-one (argument x) ∙ ap as_query (argument-of x)

aggregate-or : (x y : Writing) → seen (query (argument x ∷ y ∷ [])) ≡ as_query (beside (ranged (seen x)) (seen y))
aggregate-or x y = query-of (argument x ∷ y ∷ []) ∙ ap as_query (of-two (argument x) y ∙ ap (λ z. beside z (seen y)) (argument-of x))

pub expr-Count : (x : Expr) → seen (writing (ex.Count x)) ≡ as_query (ranged (seen (writing x)))
expr-Count x = ap seen (at.writing-Count x) ∙ aggregate-of (writing x)

pub expr-Sum : (x : Expr) → seen (writing (ex.Sum x)) ≡ as_query (ranged (seen (writing x)))
expr-Sum x = ap seen (at.writing-Sum x) ∙ aggregate-of (writing x)

pub expr-Min : (x other : Expr) → seen (writing (ex.Min x other)) ≡ as_query (beside (ranged (seen (writing x))) (seen (writing other)))
expr-Min x other = ap seen (at.writing-Min x other) ∙ aggregate-or (writing x) (writing other)

pub expr-Max : (x other : Expr) → seen (writing (ex.Max x other)) ≡ as_query (beside (ranged (seen (writing x))) (seen (writing other)))
expr-Max x other = ap seen (at.writing-Max x other) ∙ aggregate-or (writing x) (writing other)

pub ruleset expr_rules = (expr-Quant, expr-Or, expr-And, expr-Not, expr-Cmp, expr-Member, expr-Chain, expr-Int, expr-Text, expr-Truth, expr-Me, expr-Name, expr-Clock, expr-Range, expr-Tuple, expr-SetOf, expr-Comp, expr-Count, expr-Sum, expr-Min, expr-Max)

-- patterns
pub pattern-Wild : seen (pattern_written pattern.Wild) ≡ nothing
pattern-Wild = ap seen at.pattern_written-Wild ∙ of-none

pub pattern-Name : (name : List ℕ) → seen (pattern_written (pattern.Name name)) ≡ counted 0 1
unfolding seen counted
pattern-Name name = ap seen (at.pattern_written-Name name)

pub pattern-Int : (number : ℤ) → seen (pattern_written (pattern.Int number)) ≡ nothing
pattern-Int number = ap seen (at.pattern_written-Int number) ∙ of-none

pub pattern-Text : (bytes : List ℕ) → seen (pattern_written (pattern.Text bytes)) ≡ nothing
pattern-Text bytes = ap seen (at.pattern_written-Text bytes) ∙ of-none

pub pattern-Truth : (truth : Bool) → seen (pattern_written (pattern.Truth truth)) ≡ nothing
pattern-Truth truth = ap seen (at.pattern_written-Truth truth) ∙ of-none

pub pattern-Me : seen (pattern_written pattern.Me) ≡ nothing
pattern-Me = ap seen at.pattern_written-Me ∙ of-none

pub pattern-Equal : (x : Expr) → seen (pattern_written (pattern.Equal x)) ≡ beside nothing (seen (writing x))
pattern-Equal x = ap seen (at.pattern_written-Equal x) ∙ of-lone (writing x)

pub pattern-Tuple : (ps : List PatternTree) → seen (pattern_written (pattern.Tuple ps)) ≡ as_tuple (capped (length ps)) (seen (of (map pattern_written ps)))
pattern-Tuple ps = ap seen (at.pattern_written-Tuple ps) ∙ tuple-of (map pattern_written ps) ∙ ap (λ n. as_tuple (capped n) (seen (of (map pattern_written ps)))) (length-map ps pattern_written)

pub ruleset pattern_rules = (pattern-Wild, pattern-Name, pattern-Int, pattern-Text, pattern-Truth, pattern-Me, pattern-Equal, pattern-Tuple)

-- the pattern of the other process, a generator, a further operand of a chain
pub peer-From : (p : PatternTree) → seen (of (peer_written (peer.From p) ∷ [])) ≡ beside nothing (seen (pattern_written p))
peer-From p = of-lone (peer_written (peer.From p)) ∙ ap (λ w. beside nothing (seen w)) (at.peer_written-From p)

pub peer-To : (p : PatternTree) → seen (of (peer_written (peer.To p) ∷ [])) ≡ beside nothing (seen (pattern_written p))
peer-To p = of-lone (peer_written (peer.To p)) ∙ ap (λ w. beside nothing (seen w)) (at.peer_written-To p)

pub ruleset peer_rules = (of-none, peer-From, peer-To)

started : seen (lang.counted 1 0) ≡ counted 1 0
unfolding seen counted
started = refl

pub gen-of : (g : GenTree)
    → seen (gen_written g) ≡ beside (beside (counted 1 0) (seen (pattern_written (out-GenTree g).message))) (seen (of (option_to_list (option_map peer_written (out-GenTree g).peer))))
gen-of g =
    let v = out-GenTree g in
    let message = pattern_written v.message in
    let other = option_to_list (option_map peer_written v.peer) in
    ap seen (at.gen_written-of v.message v.peer v.source) ∙ of-append (lang.counted 1 0 ∷ message ∷ []) other
    ∙ ap (λ y. beside y (seen (of other))) (of-two (lang.counted 1 0) message ∙ ap (λ y. beside y (seen message)) started)

pub ruleset gen_rules = (gen-of)

pub link-beside : (link : ChainTree) (y : Written) → beside y (seen (chain_written link)) ≡ beside y (seen (writing (out-ChainTree link).operand))
link-beside link y = let v = out-ChainTree link in ap (λ w. beside y (seen w)) (at.chain_written-of v.op v.operand) ∙ of-one (writing v.operand) y

pub ruleset list_rules = (of-none)

pub ruleset guard_rules = (of-none, of-lone)

-- one more of a list
pub all_step : {A : Type 0} (f : A → Writing) (xs : List A) (i : ℕ) (x : A) (all more : Written)
    → i < length xs → x ≡ get_or xs i x → all ≡ seen (of (map f (take i xs))) → more ≡ beside all (seen (f x)) → more ≡ seen (of (map f (take (i + 1) xs)))
all_step f xs i x all more inside here so_far grown =
    grown ∙ ap (λ y. beside y (seen (f x))) so_far ∙ sym (of-more (map f (take i xs)) (f x)) ∙ ap (λ ws. seen (of ws)) (sym (map-append f (take i xs) (x ∷ [])) ∙ ap (map f) (sym (taken xs i x inside here)))
