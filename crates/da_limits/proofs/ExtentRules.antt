-- The extents of statements and blocks, from those of their parts.
use Rattle.std.specs.Prelude.{◌≡◌, refl, ℕ, ◌+◌, ◌<◌, ◌≤◌, List, [], ◌∷◌, ◌++◌, map, length, Some, None}
use Rattle.std.specs.List.{fold}
use Rattle.std.proofs.Common.{◌∙◌, ap, sym, arith, get_or, take}
use Rattle.std.proofs.lemmas.List.{map-append, take_all}
use Rattle.da_lang.specs.declared.tree.Branch.{Branch, out-Branch}
use Rattle.da_lang.specs.declared.tree.Expr.{Expr}
use Rattle.da_lang.specs.declared.tree.Stmt.TheVariants as stmt
use Rattle.da_lang.specs.declared.tree.TimeoutTree.{TimeoutTree, out-TimeoutTree}
use Rattle.da_lang.specs.ExprNames.{found_names}
use Rattle.da_limits.specs.Bound.{found}
use Rattle.da_limits.specs.Capped.{capped}
use Rattle.da_limits.specs.declared.extent.Extent.{Extent}
use Rattle.da_limits.specs.Extents.{Called, nothing, beside, together, one, deeper, wider, as_block, else_extent, extent, extent_of_branch, extent_of_timeout}
use Rattle.da_limits.proofs.ExtentsAt.{extent-Assign, extent-Add, extent-Del, extent-Send, extent-Output, extent-Pass, extent-Label, extent-Call, extent-If, extent-While, extent-For, extent-AwaitOne, extent-Await, extent_of_branch-of, extent_of_timeout-of}
use Rattle.da_lang.proofs.Taken.{taken}

-- so many slots, counted up to the greatest number
pub wider-capped : (n : ℕ) (x : Extent) → wider (capped n) x ≡ wider n x
unfolding wider
wider-capped n x =
    let slots : capped (x.slots + capped n) ≡ capped (x.slots + n) = omega arith in
    ap (λ (k : ℕ). let y : Extent = record { items = x.items; blocks = x.blocks; slots = k } in y) slots

pub else_extent-None : else_extent None ≡ nothing
unfolding else_extent
else_extent-None = refl

pub else_extent-Some : (xs : List Extent) → else_extent (Some xs) ≡ as_block xs
unfolding else_extent
else_extent-Some xs = refl

pub stmt-AwaitOne : (called : Called) (x : Expr) (line : ℕ) → extent called (stmt.AwaitOne x line) ≡ one (wider (found x) nothing)
unfolding found
stmt-AwaitOne called x line = extent-AwaitOne called x line ∙ ap one (sym (wider-capped (length (found_names x)) nothing))

pub timeout-of : (called : Called) (t : TimeoutTree) → extent_of_timeout called t ≡ as_block (map (extent called) (out-TimeoutTree t).body)
timeout-of called t = let v = out-TimeoutTree t in extent_of_timeout-of called v.body v.line

pub ruleset stmt_rules = (else_extent-None, else_extent-Some, extent-Assign, extent-Add, extent-Del, extent-Send, extent-Output, extent-Pass, extent-Label, extent-Call, extent-If, extent-While, extent-For, stmt-AwaitOne, extent-Await, timeout-of)

pub branch-of : (called : Called) (b : Branch) → extent_of_branch called b ≡ wider (found (out-Branch b).cond) (as_block (map (extent called) (out-Branch b).body))
unfolding found
branch-of called b = let v = out-Branch b in extent_of_branch-of called v.cond v.body v.line ∙ sym (wider-capped (length (found_names v.cond)) (as_block (map (extent called) v.body)))

pub ruleset branch_rules = (branch-of)

-- blocks
pub together-none : together [] ≡ nothing
unfolding together
together-none = refl

fold-more : (xs : List Extent) (x y : Extent) → fold beside x (xs ++ y ∷ []) ≡ beside (fold beside x xs) y
fold-more [] x y = refl
fold-more (z ∷ xs) x y = fold-more xs (beside x z) y

pub together-more : (xs : List Extent) (y : Extent) → together (xs ++ y ∷ []) ≡ beside (together xs) y
unfolding together
together-more xs y = fold-more xs nothing y

pub block-none : {A : Type 0} (f : A → Extent) (xs : List A) → length xs ≡ 0 → as_block (map f xs) ≡ nothing
unfolding as_block
block-none f [] none = refl
block-none f (x ∷ xs) none = absurd (omega (arith, none))

pub block-some : {A : Type 0} (f : A → Extent) (xs : List A) → 0 < length xs → as_block (map f xs) ≡ deeper (together (map f xs))
unfolding as_block
block-some f [] some = absurd (omega (arith, some))
block-some f (x ∷ xs) some = refl

-- one more of a list; all of it
pub together_step : {A : Type 0} (f : A → Extent) (xs : List A) (i : ℕ) (x : A) (all this more : Extent)
    → i < length xs → x ≡ get_or xs i x → all ≡ together (map f (take i xs)) → this ≡ f x → more ≡ beside all this → more ≡ together (map f (take (i + 1) xs))
together_step f xs i x all this more inside here so_far one_more grown =
    grown ∙ ap (λ y. beside y this) so_far ∙ ap (λ y. beside (together (map f (take i xs))) y) one_more
    ∙ sym (ap (λ ys. together (map f ys)) (taken xs i x inside here) ∙ ap together (map-append f (take i xs) (x ∷ [])) ∙ together-more (map f (take i xs)) (f x))

pub block_end : {A : Type 0} (f : A → Extent) (xs : List A) (i : ℕ) (all whole : Extent) → length xs ≤ i → 0 < length xs → all ≡ together (map f (take i xs)) → whole ≡ deeper all → whole ≡ as_block (map f xs)
block_end f xs i all whole end some so_far closed =
    closed ∙ ap deeper (so_far ∙ ap (λ ys. together (map f ys)) (take_all i xs end)) ∙ sym (block-some f xs some)

pub ruleset block_rules = (else_extent-None, else_extent-Some, together-none, block-none, block-some)

pub ruleset wider_rules = (wider-capped)

-- a body with the slots of its parameters
pub body_made : {A : Type 0} (params : List A) (count wide : ℕ) (inner block whole : Extent) → count ≡ length params → wide ≡ capped count → inner ≡ block → whole ≡ wider wide inner → whole ≡ wider (length params) block
body_made params count wide inner block whole counted cap body is =
    is ∙ ap (wider wide) body ∙ ap (λ n. wider n block) (cap ∙ ap capped counted) ∙ wider-capped (length params) block

pub block-empty : as_block [] ≡ nothing
unfolding as_block
block-empty = refl
