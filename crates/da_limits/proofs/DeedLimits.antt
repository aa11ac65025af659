-- The lines of statements that pass a limit, by what is written in each.
use Rattle.std.specs.Prelude.{◌≡◌, refl, ℕ, ◌<◌, max, nat_lt, ◌||◌, Bool, true, false, List, [], ◌∷◌, ◌++◌, map, flat_map, filter}
use Rattle.std.specs.List.{list_any}
use Rattle.std.proofs.Common.{◌∙◌, ap, sym, arith, cond, ltb-true, ltb-false}
use Rattle.std.proofs.lemmas.Bool.{lt-ltb, le-ltb}
use Rattle.std.proofs.lemmas.List.{map-append}
use Rattle.std.proofs.lemmas.List.Folds.{list_any-append}
use Rattle.da_lang.specs.declared.tree.Expr.{Expr}
use Rattle.da_lang.specs.declared.tree.Stmt.{Stmt}
use Rattle.da_lang.specs.Deeds.{Deed, deeds, deeds_of}
use Rattle.da_lang.specs.Limits.{line_if, wide, wide_exprs, has_query, most_parts, most_generators, most_variables}
use Rattle.da_lang.specs.Written.{Size, Writing, greatest, of, writing}
use Rattle.da_limits.specs.Capped.{capped}
use Rattle.da_limits.specs.declared.sizes.DeedSize.{DeedSize}
use Rattle.da_limits.specs.LimitLines.{wide_lines, gen_lines}
use Rattle.da_limits.specs.Sizes.{deed_size, sizes, sizes_of}
use Rattle.da_limits.specs.Writings.{seen}
use Rattle.da_limits.proofs.LimitLinesAt.{generators-is, parts-is, variables-is}
use Rattle.da_limits.proofs.LimitWalkAt.{over-capped}

-- a limit and the greatest of some numbers
over-max : (k a b : ℕ) (x y : Bool) → nat_lt k a ≡ x → nat_lt k b ≡ y → nat_lt k (max a b) ≡ (x || y)
over-max k a b true y p q = lt-ltb k (max a b) (omega (arith, ltb-true k a p))
over-max k a b false true p q = lt-ltb k (max a b) (omega (arith, ltb-true k b q))
over-max k a b false false p q = le-ltb k (max a b) (omega (arith, ltb-false k a p, ltb-false k b q))

over-none : (k : ℕ) → nat_lt k 0 ≡ false
over-none k = le-ltb k 0 (omega arith)

over-greatest : {A : Type 0} (k : ℕ) (f : A → ℕ) (xs : List A) → nat_lt k (greatest (map f xs)) ≡ list_any (λ x. nat_lt k (f x)) xs
over-greatest k f [] = over-none k
over-greatest k f (x ∷ xs) = over-max k (f x) (greatest (map f xs)) (nat_lt k (f x)) (list_any (λ y. nat_lt k (f y)) xs) refl (over-greatest k f xs)

any-flat : {A B : Type 0} (p : B → Bool) (f : A → List B) (xs : List A) → list_any p (flat_map f xs) ≡ list_any (λ x. list_any p (f x)) xs
any-flat p f [] = refl
any-flat p f (x ∷ xs) = list_any-append p (f x) (flat_map f xs) ∙ ap (λ b. list_any p (f x) || b) (any-flat p f xs)

any-map : {A B : Type 0} (p : B → Bool) (f : A → B) (xs : List A) → list_any p (map f xs) ≡ list_any (λ x. p (f x)) xs
any-map p f [] = refl
any-map p f (x ∷ xs) = ap (λ b. p (f x) || b) (any-map p f xs)

seen-wide : (ws : List Writing) → nat_lt most_parts (seen (of ws)).widest ≡ list_any (λ w. wide w.widest) ws
unfolding seen
seen-wide ws = over-capped most_parts 255 (greatest (map (λ (w : Writing). w.widest) ws)) parts-is (omega arith) ∙ over-greatest most_parts (λ (w : Writing). w.widest) ws

pub exprs-wide : (xs : List Expr) → nat_lt most_parts (seen (of (map writing xs))).widest ≡ wide_exprs xs
exprs-wide xs = seen-wide (map writing xs) ∙ any-map (λ w. wide w.widest) writing xs

abbrev queries_in : List Writing → List Size
queries_in ws = flat_map (λ w. w.queries) ws

largest_over : (most limit : ℕ) (f : Size → ℕ) (xs : List Expr) → most ≡ limit → limit < 65535
    → nat_lt most (capped (greatest (map f (queries_in (map writing xs))))) ≡ list_any (λ x. list_any (λ s. nat_lt most (f s)) (writing x).queries) xs
largest_over most limit f xs is low =
    over-capped most limit (greatest (map f (queries_in (map writing xs)))) is low ∙ over-greatest most f (queries_in (map writing xs))
    ∙ any-flat (λ s. nat_lt most (f s)) (λ (w : Writing). w.queries) (map writing xs) ∙ any-map (λ (w : Writing). list_any (λ s. nat_lt most (f s)) w.queries) writing xs

deed-wide : (d : Deed) → nat_lt most_parts (deed_size d).written.widest ≡ wide_exprs d.says
deed-wide d = exprs-wide d.says

deed-gens : (d : Deed) → nat_lt most_generators (deed_size d).written.largest.gens ≡ has_query (λ s. nat_lt most_generators s.gens) d
unfolding seen
deed-gens d = largest_over most_generators 8 (λ s. s.gens) d.says generators-is (omega arith)

deed-variables : (d : Deed) → nat_lt most_variables (deed_size d).written.largest.variables ≡ has_query (λ s. nat_lt most_variables s.variables) d
unfolding seen
deed-variables d = largest_over most_variables 1024 (λ s. s.variables) d.says variables-is (omega arith)

-- the lines of the deeds that pass a test
lines_by : (size : DeedSize → Bool) (test : Deed → Bool) (d : Deed) (ds : List Deed) (b : Bool) → test d ≡ b → size (deed_size d) ≡ test d
    → flat_map (λ e. line_if (size e) e.line) (map deed_size ds) ≡ map (λ e. e.line) (filter test ds)
    → line_if (size (deed_size d)) d.line ++ flat_map (λ e. line_if (size e) e.line) (map deed_size ds) ≡ map (λ e. e.line) (cond b (d ∷ filter test ds) (filter test ds))
lines_by size test d ds true is same rest = ap (λ c. line_if c d.line ++ flat_map (λ e. line_if (size e) e.line) (map deed_size ds)) (same ∙ is) ∙ ap (λ ls. d.line ∷ ls) rest
lines_by size test d ds false is same rest = ap (λ c. line_if c d.line ++ flat_map (λ e. line_if (size e) e.line) (map deed_size ds)) (same ∙ is) ∙ rest

lines_where : (size : DeedSize → Bool) (test : Deed → Bool) → ((d : Deed) → size (deed_size d) ≡ test d) → (ds : List Deed) → flat_map (λ e. line_if (size e) e.line) (map deed_size ds) ≡ map (λ d. d.line) (filter test ds)
lines_where size test same [] = refl
lines_where size test same (d ∷ ds) =
    lines_by size test d ds (test d) refl (same d) (lines_where size test same ds) ∙ refl

sizes-deeds : (stmts : List Stmt) → sizes stmts ≡ map deed_size (deeds stmts)
unfolding sizes sizes_of
sizes-deeds [] = refl
sizes-deeds (s ∷ ss) = ap (λ ds. map deed_size (deeds_of s) ++ ds) (sizes-deeds ss) ∙ sym (map-append deed_size (deeds_of s) (deeds ss))

pub lines-wide : (stmts : List Stmt) → wide_lines (sizes stmts) ≡ map (λ d. d.line) (filter (λ d. wide_exprs d.says) (deeds stmts))
unfolding wide_lines
lines-wide stmts = ap (flat_map (λ (e : DeedSize). line_if (nat_lt most_parts e.written.widest) e.line)) (sizes-deeds stmts) ∙ lines_where (λ e. nat_lt most_parts e.written.widest) (λ d. wide_exprs d.says) deed-wide (deeds stmts)

pub lines-gens : (stmts : List Stmt) → gen_lines (sizes stmts) ≡ map (λ d. d.line) (filter (has_query (λ s. nat_lt most_generators s.gens)) (deeds stmts))
unfolding gen_lines
lines-gens stmts = ap (flat_map (λ (e : DeedSize). line_if (nat_lt most_generators e.written.largest.gens) e.line)) (sizes-deeds stmts) ∙ lines_where (λ e. nat_lt most_generators e.written.largest.gens) (has_query (λ s. nat_lt most_generators s.gens)) deed-gens (deeds stmts)

any-same : {A : Type 0} (p q : A → Bool) → ((x : A) → p x ≡ q x) → (xs : List A) → list_any p xs ≡ list_any q xs
any-same p q same [] = refl
any-same p q same (x ∷ xs) = ap (λ b. b || list_any p xs) (same x) ∙ ap (λ b. q x || b) (any-same p q same xs)

pub many-variables : (stmts : List Stmt) → list_any (λ d. nat_lt most_variables d.written.largest.variables) (sizes stmts) ≡ list_any (has_query (λ s. nat_lt most_variables s.variables)) (deeds stmts)
many-variables stmts =
    ap (list_any (λ (d : DeedSize). nat_lt most_variables d.written.largest.variables)) (sizes-deeds stmts) ∙ any-map (λ (d : DeedSize). nat_lt most_variables d.written.largest.variables) deed_size (deeds stmts)
    ∙ any-same (λ (d : Deed). nat_lt most_variables (deed_size d).written.largest.variables) (has_query (λ s. nat_lt most_variables s.variables)) deed-variables (deeds stmts)
