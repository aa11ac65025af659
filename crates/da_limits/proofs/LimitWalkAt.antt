-- What limits members pass, from what their parts pass.
use Rattle.std.specs.Prelude.{◌≡◌, refl, ℕ, ◌<◌, nat_lt, ◌||◌, Bool, true, false, List, Option, Some, None, option_to_list}
use Rattle.std.specs.List.{list_any}
use Rattle.std.proofs.Common.{◌∙◌, ap, sym, arith, ltb-true, ltb-false}
use Rattle.std.proofs.lemmas.Bool.{lt-ltb, le-ltb}
use Rattle.da_lang.specs.declared.refusal.LimitKind.TheVariants as limit
use Rattle.da_lang.specs.declared.tree.ClassTree.{ClassTree}
use Rattle.da_lang.specs.declared.tree.Member.TheVariants as member
use Rattle.da_lang.specs.declared.tree.Param.{Param}
use Rattle.da_lang.specs.declared.tree.PatternTree.{PatternTree}
use Rattle.da_lang.specs.declared.tree.Stmt.{Stmt}
use Rattle.da_lang.specs.declared.ty.Ty.{Ty}
use Rattle.da_lang.specs.ClassParts.{InMethod}
use Rattle.da_lang.specs.Limits.{line_if, wide, is_reached, most_parts, most_variables}
use Rattle.da_lang.specs.Written.{Writing, pattern_written, type_width}
use Rattle.da_limits.specs.Capped.{capped}
use Rattle.da_limits.specs.LimitLines.{told_at, wide_lines, gen_lines}
use Rattle.da_bodies.specs.Telling.{LimitRefusal as Refusal}
use Rattle.da_limits.specs.LimitWalk.{stmts_told, many_in, member_told, member_many, wide_params, wide_patterns}
use Rattle.da_limits.specs.Sizes.{sizes}
use Rattle.da_limits.specs.Writings.{seen}
use Rattle.da_limits.proofs.LimitLinesAt.{told-none, parts-is}

-- a limit below the greatest number that is counted
capped_by : (limit n : ℕ) (b : Bool) → limit < 65535 → nat_lt limit n ≡ b → nat_lt limit (capped n) ≡ b
capped_by limit n true low e = lt-ltb limit (capped n) (omega (arith, ltb-true limit n e, low))
capped_by limit n false low e = le-ltb limit (capped n) (omega (arith, ltb-false limit n e))

pub over-capped : (most limit n : ℕ) → most ≡ limit → limit < 65535 → nat_lt most (capped n) ≡ nat_lt most n
over-capped most limit n is low = ap (λ m. nat_lt m (capped n)) is ∙ capped_by limit n (nat_lt limit n) low refl ∙ ap (λ m. nat_lt m n) (sym is)

pub wide-capped : (n : ℕ) → nat_lt most_parts (capped n) ≡ nat_lt most_parts n
wide-capped n = over-capped most_parts 255 n parts-is (omega arith)

pub seen-widest : (w : Writing) → (seen w).widest ≡ capped w.widest
unfolding seen
seen-widest w = refl

pub seen-wide : (w : Writing) → nat_lt most_parts (seen w).widest ≡ wide w.widest
seen-wide w = ap (nat_lt most_parts) (seen-widest w) ∙ wide-capped w.widest

pub ruleset wide_rules = (wide-capped, seen-wide)

or_none : (b : Bool) → (b || false) ≡ b
or_none true = refl
or_none false = refl

pub wide-message : (message : PatternTree) (from : Option PatternTree) → wide (pattern_written message).widest ≡ true → true ≡ wide_patterns message from
wide-message message from e = sym (ap (λ b. b || list_any (λ p. wide (pattern_written p).widest) (option_to_list from)) e)

pub wide-none : (message : PatternTree) (from : Option PatternTree) → wide (pattern_written message).widest ≡ false → from ≡ None → false ≡ wide_patterns message from
wide-none message from e is = sym (ap (λ b. b || list_any (λ p. wide (pattern_written p).widest) (option_to_list from)) e ∙ ap (λ o. list_any (λ p. wide (pattern_written p).widest) (option_to_list o)) is)

pub wide-other : (message other : PatternTree) (from : Option PatternTree) (b : Bool) → wide (pattern_written message).widest ≡ false → from ≡ Some other → b ≡ wide (pattern_written other).widest → b ≡ wide_patterns message from
wide-other message other from b e is found =
    found ∙ sym (or_none (wide (pattern_written other).widest)) ∙ sym (ap (λ c. c || list_any (λ p. wide (pattern_written p).widest) (option_to_list from)) e ∙ ap (λ o. list_any (λ p. wide (pattern_written p).widest) (option_to_list o)) is)

pub ruleset pattern_rules = (wide-message, wide-none, wide-other)

-- statements that are reached or not
pub told-reached : (stmts : List Stmt) (found : Option Refusal) → stmts_told true stmts found ≡ told_at limit.Generators (told_at limit.Parts found (wide_lines (sizes stmts))) (gen_lines (sizes stmts))
unfolding stmts_told
told-reached stmts found = refl

pub told-unreached : (stmts : List Stmt) (found : Option Refusal) → stmts_told false stmts found ≡ told_at limit.Parts found (wide_lines (sizes stmts))
unfolding stmts_told
told-unreached stmts found = told-none limit.Generators (told_at limit.Parts found (wide_lines (sizes stmts)))

pub many-reached : (stmts : List Stmt) → many_in true stmts ≡ list_any (λ d. nat_lt most_variables d.written.largest.variables) (sizes stmts)
unfolding many_in
many-reached stmts = refl

pub many-unreached : (stmts : List Stmt) → many_in false stmts ≡ false
unfolding many_in
many-unreached stmts = refl

pub ruleset stmts_rules = (told-reached, told-unreached, many-reached, many-unreached)

-- members
pub told-Var : (c : ClassTree) (name : List ℕ) (ty : Ty) (line : ℕ) (found : Option Refusal) → member_told c (member.Var name ty line) found ≡ told_at limit.Parts found (line_if (wide (type_width ty)) line)
unfolding member_told
told-Var c name ty line found = refl

pub told-Setup : (c : ClassTree) (params : List Param) (stmts : List Stmt) (line : ℕ) (found : Option Refusal) → member_told c (member.Setup params stmts line) found ≡ stmts_told true stmts (told_at limit.Parts found (line_if (wide_params params) line))
unfolding member_told
told-Setup c params stmts line found = refl

pub told-Run : (c : ClassTree) (stmts : List Stmt) (line : ℕ) (found : Option Refusal) → member_told c (member.Run stmts line) found ≡ stmts_told true stmts found
unfolding member_told
told-Run c stmts line found = refl

pub told-Method : (c : ClassTree) (name : List ℕ) (params : List Param) (stmts : List Stmt) (line : ℕ) (found : Option Refusal)
    → member_told c (member.Method name params stmts line) found ≡ stmts_told (is_reached c (InMethod name)) stmts (told_at limit.Parts found (line_if (wide_params params) line))
unfolding member_told
told-Method c name params stmts line found = refl

pub told-Receive : (c : ClassTree) (message : PatternTree) (from : Option PatternTree) (labels : List (List ℕ)) (stmts : List Stmt) (line : ℕ) (found : Option Refusal)
    → member_told c (member.Receive message from labels stmts line) found ≡ stmts_told true stmts (told_at limit.Parts found (line_if (wide_patterns message from) line))
unfolding member_told
told-Receive c message from labels stmts line found = refl

pub many-Var : (c : ClassTree) (name : List ℕ) (ty : Ty) (line : ℕ) → member_many c (member.Var name ty line) ≡ false
unfolding member_many
many-Var c name ty line = refl

pub many-Setup : (c : ClassTree) (params : List Param) (stmts : List Stmt) (line : ℕ) → member_many c (member.Setup params stmts line) ≡ many_in true stmts
unfolding member_many
many-Setup c params stmts line = refl

pub many-Run : (c : ClassTree) (stmts : List Stmt) (line : ℕ) → member_many c (member.Run stmts line) ≡ many_in true stmts
unfolding member_many
many-Run c stmts line = refl

pub many-Method : (c : ClassTree) (name : List ℕ) (params : List Param) (stmts : List Stmt) (line : ℕ) → member_many c (member.Method name params stmts line) ≡ many_in (is_reached c (InMethod name)) stmts
unfolding member_many
many-Method c name params stmts line = refl

pub many-Receive : (c : ClassTree) (message : PatternTree) (from : Option PatternTree) (labels : List (List ℕ)) (stmts : List Stmt) (line : ℕ) → member_many c (member.Receive message from labels stmts line) ≡ many_in true stmts
unfolding member_many
many-Receive c message from labels stmts line = refl

pub ruleset member_rules = (told-Var, told-Setup, told-Run, told-Method, told-Receive, many-Var, many-Setup, many-Run, many-Method, many-Receive)
