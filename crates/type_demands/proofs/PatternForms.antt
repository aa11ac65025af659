-- What patterns demand, by their forms.
use Rattle.std.specs.Prelude.{◌≡◌, refl, suc, List, [], ◌∷◌, map, length}
use Rattle.std.proofs.Common.{◌∙◌, ap, append_assoc}
use Rattle.da_lang.specs.declared.query.Pattern.{Pattern}
use Rattle.da_lang.specs.declared.query.Pattern.TheVariants as pa
use Rattle.type_table.specs.declared.scheme.Scheme.{Scheme}
use Rattle.type_demands.specs.declared.demand.Demand.TheVariants as d
use Rattle.type_demands.specs.Syms.{Context}
use Rattle.type_demands.specs.Terms.{PatternSym, row_sym, row_then, parts_sym, pattern_sym}
use Rattle.type_demands.proofs.PutLaws.{at_line-both}
use Rattle.type_demands.proofs.QueriesAt.{pattern-Any, pattern-Bind, pattern-Const, pattern-Me, pattern-Equal, pattern-Tuple}

pub ruleset pattern_forms = (pa.outs-Any, pa.outs-Bind, pa.outs-Const, pa.outs-Me, pa.outs-Equal, pa.outs-Tuple)

mapped_count : (g : Pattern → PatternSym) (ps : List Pattern) → length (map g ps) ≡ length ps
mapped_count g [] = refl
mapped_count g (p ∷ ps) = ap suc (mapped_count g ps)

pub pattern-parts : (context : Context) (ps : List Pattern) (asked : Scheme) (row : List Scheme) → pattern_sym context (pa.Tuple ps) asked row ≡ row_then (row_sym (d.Width asked (length ps) ∷ []) row) (parts_sym 0 (length ps) asked (map (pattern_sym context) ps))
pattern-parts context ps asked row =
    pattern-Tuple context ps asked row
    ∙ ap (λ n. row_then (row_sym (d.Width asked n ∷ []) row) (parts_sym 0 n asked (map (pattern_sym context) ps))) (mapped_count (pattern_sym context) ps)

pub ruleset pattern_rules = (pattern-Any, pattern-Bind, pattern-Const, pattern-Me, pattern-Equal, pattern-parts, at_line-both, append_assoc)
