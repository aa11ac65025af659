-- Whether an expression holds a query or reads the clock, a layer each.
use Rattle.std.specs.Prelude.{◌≡◌, refl, ℕ, suc, ◌==◌, ℤ, Bool, true, false, not, ◌||◌, ◌&&◌, List, [], ◌∷◌, ◌++◌, length, map, flat_map, Option}
use Rattle.std.specs.List.{list_any}
use Rattle.std.proofs.Common.{◌∙◌, sym, ap, arith, eqb-true}
use Rattle.da_lang.specs.declared.tree.ChainTree.{ChainTree, out-ChainTree, roll-out-ChainTree}
use Rattle.da_lang.specs.declared.tree.CmpOp.{CmpOp}
use Rattle.da_lang.specs.declared.tree.Expr.{Expr}
use Rattle.da_lang.specs.declared.tree.Expr.TheVariants as ex
use Rattle.da_lang.specs.declared.tree.GenTree.{GenTree}
use Rattle.da_lang.specs.Written.{Writing, Size, of, writing, chain_written}
use Rattle.da_lang.proofs.WritingAt as at
use Rattle.da_names.specs.Early.{asks_early, link_asks_early}

abbrev asking : Writing → Bool
asking w = not (length w.queries == 0)

abbrev early : Bool → Writing → Bool
early clock w = asking w || (clock && w.clock)

some_by : (n : ℕ) (b : Bool) → (suc n == 0) ≡ b → not (suc n == 0) ≡ true
some_by n true is = absurd (omega (arith, eqb-true (suc n) 0 is))
some_by n false is = ap not is

some_more : (n : ℕ) → not (suc n == 0) ≡ true
some_more n = some_by n (suc n == 0) refl

some_of : (xs ys : List Size) → not (length (xs ++ ys) == 0) ≡ (not (length xs == 0) || not (length ys == 0))
some_of [] ys = refl
some_of (x ∷ xs) ys = some_more (length (xs ++ ys)) ∙ sym (ap (λ b. b || not (length ys == 0)) (some_more (length xs)))

both_or : (a b c p q : Bool) → ((a || b) || (c && (p || q))) ≡ ((a || (c && p)) || (b || (c && q)))
both_or true b c p q = refl
both_or false true true true q = refl
both_or false true true false q = refl
both_or false true false p q = refl
both_or false false true true q = refl
both_or false false true false q = refl
both_or false false false p q = refl

off : (c : Bool) → (c && false) ≡ false
off true = refl
off false = refl

or_off : (b : Bool) → (b || false) ≡ b
or_off true = refl
or_off false = refl

early-of : (clock : Bool) (ws : List Writing) → early clock (of ws) ≡ list_any (early clock) ws
early-of clock [] = off clock
early-of clock (w ∷ ws) =
    let rest = flat_map (λ (v : Writing). v.queries) ws in
    let ticks = list_any (λ (v : Writing). v.clock) ws in
    ap (λ b. b || (clock && (w.clock || ticks))) (some_of w.queries rest)
    ∙ both_or (asking w) (not (length rest == 0)) clock w.clock ticks
    ∙ ap (λ b. early clock w || b) (early-of clock ws)

any-map : {A B : Type 0} (test : B → Bool) (f : A → B) (xs : List A) → list_any test (map f xs) ≡ list_any (λ x. test (f x)) xs
any-map test f [] = refl
any-map test f (x ∷ xs) = ap (λ b. test (f x) || b) (any-map test f xs)

module _ (clock : Bool) where
  by_writing : (x : Expr) (w : Writing) → writing x ≡ w → asks_early clock x ≡ early clock w
  unfolding asks_early
  by_writing x w is = ap (early clock) is

  list_by : (x : Expr) (xs : List Expr) → writing x ≡ of (map writing xs) → asks_early clock x ≡ list_any (asks_early clock) xs
  unfolding asks_early
  list_by x xs is = ap (early clock) is ∙ early-of clock (map writing xs) ∙ any-map (early clock) writing xs

  pub early-Or : (xs : List Expr) → asks_early clock (ex.Or xs) ≡ list_any (asks_early clock) xs
  early-Or xs = list_by (ex.Or xs) xs (at.writing-Or xs)

  pub early-And : (xs : List Expr) → asks_early clock (ex.And xs) ≡ list_any (asks_early clock) xs
  early-And xs = list_by (ex.And xs) xs (at.writing-And xs)

  pub early-SetOf : (xs : List Expr) → asks_early clock (ex.SetOf xs) ≡ list_any (asks_early clock) xs
  early-SetOf xs = list_by (ex.SetOf xs) xs (at.writing-SetOf xs)

  pub early-Tuple : (xs : List Expr) → asks_early clock (ex.Tuple xs) ≡ list_any (asks_early clock) xs
  unfolding asks_early
  early-Tuple xs = ap (early clock) (at.writing-Tuple xs) ∙ early-of clock (map writing xs) ∙ any-map (early clock) writing xs

  pub early-Not : (x : Expr) → asks_early clock (ex.Not x) ≡ asks_early clock x
  early-Not x = list_by (ex.Not x) (x ∷ []) (at.writing-Not x) ∙ or_off (asks_early clock x)

  pub early-Cmp : (o : CmpOp) (x y : Expr) → asks_early clock (ex.Cmp o x y) ≡ (asks_early clock x || asks_early clock y)
  early-Cmp o x y = list_by (ex.Cmp o x y) (x ∷ y ∷ []) (at.writing-Cmp o x y) ∙ ap (λ b. asks_early clock x || b) (or_off (asks_early clock y))

  pub early-Member : (x y : Expr) → asks_early clock (ex.Member x y) ≡ (asks_early clock x || asks_early clock y)
  early-Member x y = list_by (ex.Member x y) (x ∷ y ∷ []) (at.writing-Member x y) ∙ ap (λ b. asks_early clock x || b) (or_off (asks_early clock y))

  pub early-Range : (x y : Expr) → asks_early clock (ex.Range x y) ≡ (asks_early clock x || asks_early clock y)
  early-Range x y = list_by (ex.Range x y) (x ∷ y ∷ []) (at.writing-Range x y) ∙ ap (λ b. asks_early clock x || b) (or_off (asks_early clock y))

  link_early : (c : ChainTree) → early clock (chain_written c) ≡ link_asks_early clock c
  unfolding link_asks_early asks_early
  link_early c =
      let v = out-ChainTree c in
      ap (λ l. early clock (chain_written l)) (sym (roll-out-ChainTree c)) ∙ ap (early clock) (at.chain_written-of v.op v.operand)
      ∙ early-of clock (writing v.operand ∷ []) ∙ or_off (early clock (writing v.operand))

  links_early : (more : List ChainTree) → list_any (early clock) (map chain_written more) ≡ list_any (link_asks_early clock) more
  links_early [] = refl
  links_early (c ∷ more) = ap (λ b. b || list_any (early clock) (map chain_written more)) (link_early c) ∙ ap (λ b. link_asks_early clock c || b) (links_early more)

  pub early-Chain : (x : Expr) (more : List ChainTree) → asks_early clock (ex.Chain x more) ≡ (asks_early clock x || list_any (link_asks_early clock) more)
  unfolding asks_early
  early-Chain x more = ap (early clock) (at.writing-Chain x more) ∙ early-of clock (writing x ∷ map chain_written more) ∙ ap (λ b. early clock (writing x) || b) (links_early more)

  pub early-Quant : (each : Bool) (gens : List GenTree) (cond : Option Expr) → asks_early clock (ex.Quant each gens cond) ≡ true
  early-Quant each gens cond = by_writing (ex.Quant each gens cond) _ (at.writing-Quant each gens cond)

  pub early-Comp : (x : Expr) (gens : List GenTree) (cond : Option Expr) → asks_early clock (ex.Comp x gens cond) ≡ true
  early-Comp x gens cond = by_writing (ex.Comp x gens cond) _ (at.writing-Comp x gens cond)

  pub early-Count : (x : Expr) → asks_early clock (ex.Count x) ≡ true
  early-Count x = by_writing (ex.Count x) _ (at.writing-Count x)

  pub early-Sum : (x : Expr) → asks_early clock (ex.Sum x) ≡ true
  early-Sum x = by_writing (ex.Sum x) _ (at.writing-Sum x)

  pub early-Min : (x other : Expr) → asks_early clock (ex.Min x other) ≡ true
  early-Min x other = by_writing (ex.Min x other) _ (at.writing-Min x other)

  pub early-Max : (x other : Expr) → asks_early clock (ex.Max x other) ≡ true
  early-Max x other = by_writing (ex.Max x other) _ (at.writing-Max x other)

  pub early-Int : (n : ℤ) → asks_early clock (ex.Int n) ≡ false
  early-Int n = list_by (ex.Int n) [] (at.writing-Int n)

  pub early-Text : (bytes : List ℕ) → asks_early clock (ex.Text bytes) ≡ false
  early-Text bytes = list_by (ex.Text bytes) [] (at.writing-Text bytes)

  pub early-Truth : (b : Bool) → asks_early clock (ex.Truth b) ≡ false
  early-Truth b = list_by (ex.Truth b) [] (at.writing-Truth b)

  pub early-Me : asks_early clock ex.Me ≡ false
  early-Me = list_by ex.Me [] at.writing-Me

  pub early-Name : (name : List ℕ) → asks_early clock (ex.Name name) ≡ false
  early-Name name = by_writing (ex.Name name) _ (at.writing-Name name) ∙ off clock

  on : (c : Bool) → (c && true) ≡ c
  on true = refl
  on false = refl

  pub early-Clock : asks_early clock ex.Clock ≡ clock
  early-Clock = by_writing ex.Clock _ at.writing-Clock ∙ on clock

pub ruleset early_rules = (early-Or, early-And, early-SetOf, early-Tuple, early-Not, early-Cmp, early-Member, early-Range, early-Chain, early-Quant, early-Comp, early-Count, early-Sum, early-Min, early-Max, early-Int, early-Text, early-Truth, early-Me, early-Name, early-Clock)
