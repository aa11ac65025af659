-- What terms, patterns and generators demand.
use Rattle.std.specs.Prelude.{ℕ, suc, if◌then◌else◌, List, [], ◌∷◌, ◌++◌, map, length, Option, Some, None}
use Rattle.da_lang.specs.declared.query.Pattern.{Pattern, out-Pattern}
use Rattle.da_lang.specs.declared.query.Pattern.TheFolds.{fold-Pattern}
use Rattle.da_lang.specs.declared.query.Pattern.TheOpen as pattern
use Rattle.da_lang.specs.declared.query.RGen.{RGen}
use Rattle.da_lang.specs.declared.query.Source.{Source}
use Rattle.da_lang.specs.declared.query.Source.TheVariants as source
use Rattle.da_lang.specs.declared.query.Term.{Term}
use Rattle.da_lang.specs.declared.query.Term.TheFolds.{fold-Term}
use Rattle.da_lang.specs.declared.query.Term.TheOpen as term
use Rattle.da_lang.specs.QueryTypes.{pattern_tag, is_any}
use Rattle.da_lang.specs.World.{at_number}
use Rattle.type_table.specs.declared.scheme.Scheme.{Scheme}
use Rattle.type_table.specs.declared.scheme.Scheme.TheVariants as s
use Rattle.type_demands.specs.declared.demand.Demand.{Demand}
use Rattle.type_demands.specs.declared.demand.Demand.TheVariants as d
use Rattle.type_demands.specs.Syms.{Sym, Context, plain, never, plain_or_never, flat_sym, single_sym, same_as, tuple_sym, literal_sym}

-- a term, over a row of what stands for types
abbrev pub TermSym : Type 0
TermSym = List Scheme → Sym

abbrev pub term_sym_step : Context → term.Term-F TermSym → TermSym
term_sym_step context (term.Const value) row = literal_sym value
term_sym_step context term.Me row = plain s.Proc
term_sym_step context (term.Slot slot) row = flat_sym (single_sym (context.slot slot))
term_sym_step context (term.Part part) row = flat_sym (plain_or_never (at_number row part))
term_sym_step context (term.Tuple parts) row = flat_sym (tuple_sym (map (λ p. p row) parts))
term_sym_step context term.Foreign row = never

unfoldable pub term_sym : Context → Term → TermSym
term_sym context = fold-Term TermSym (term_sym_step context)

-- a row, where the demands are met
pub record RowSym : Type 0 where
  pub demands : List Demand
  pub row : List Scheme

abbrev pub row_sym : List Demand → List Scheme → RowSym
row_sym demands row = record { demands = demands; row = row }

-- one after the other
abbrev pub row_then : RowSym → (List Scheme → RowSym) → RowSym
row_then first next = row_sym (first.demands ++ (next first.row).demands) (next first.row).row

-- a pattern over a type: what it demands, and the row with its variables
abbrev pub PatternSym : Type 0
PatternSym = Scheme → List Scheme → RowSym

-- the parts from a place on of a tuple with so many
abbrev pub parts_sym : ℕ → ℕ → Scheme → List PatternSym → List Scheme → RowSym
parts_sym at count asked [] row = row_sym [] row
parts_sym at count asked (p ∷ ps) row = row_then (p (s.Part asked at count) row) (parts_sym (suc at) count asked ps)

abbrev pub pattern_sym_step : Context → pattern.Pattern-F PatternSym → PatternSym
pattern_sym_step context pattern.Any asked row = row_sym [] row
pattern_sym_step context pattern.Bind asked row = row_sym [] (row ++ asked ∷ [])
pattern_sym_step context (pattern.Const value) asked row = row_sym (same_as asked (literal_sym value)) row
pattern_sym_step context pattern.Me asked row = row_sym (same_as asked (plain s.Proc)) row
pattern_sym_step context (pattern.Equal x) asked row = row_sym (same_as asked (term_sym context x row)) row
pattern_sym_step context (pattern.Tuple ps) asked row = row_then (row_sym (d.Width asked (length ps) ∷ []) row) (parts_sym 0 (length ps) asked ps)

unfoldable pub pattern_sym : Context → Pattern → PatternSym
pattern_sym context = fold-Pattern PatternSym (pattern_sym_step context)

-- a pattern over what is found
abbrev pub over_sym : Context → Sym → Pattern → List Scheme → RowSym
over_sym context x p row = row_then (row_sym x.demands row) (pattern_sym context p x.scheme)

abbrev pub no_row : List Scheme → RowSym
no_row row = row_sym (d.Never ∷ []) row

-- a pattern over the messages with its tag
abbrev pub tagged_sym : Context → Option (List ℕ) → Pattern → List Scheme → RowSym
tagged_sym context None p row = no_row row
tagged_sym context (Some tag) p row = over_sym context (flat_sym (context.message tag)) p row

abbrev pub message_sym : Context → Pattern → List Scheme → RowSym
message_sym context p row = tagged_sym context (pattern_tag (out-Pattern p)) p row

-- the elements of a slot
abbrev pub element_sym : Sym → Sym
element_sym x = record { demands = x.demands; scheme = s.Element x.scheme }

abbrev pub source_sym : Context → Source → Pattern → List Scheme → RowSym
source_sym context source.Received p row = message_sym context p row
source_sym context source.Sent p row = message_sym context p row
source_sym context (source.Slot slot) p row = over_sym context (flat_sym (element_sym (context.slot slot))) p row

abbrev pub peer_sym : Context → Source → Pattern → List Scheme → RowSym
peer_sym context source.Received p row = pattern_sym context p s.Proc row
peer_sym context source.Sent p row = pattern_sym context p s.Proc row
peer_sym context (source.Slot slot) p row = if is_any (out-Pattern p) then row_sym [] row else no_row row

abbrev pub gen_sym : Context → RGen → List Scheme → RowSym
gen_sym context g row = row_then (source_sym context g.source g.message row) (peer_sym context g.source g.peer)

abbrev pub gens_sym : Context → List RGen → List Scheme → RowSym
gens_sym context [] row = row_sym [] row
gens_sym context (g ∷ gs) row = row_then (gen_sym context g row) (gens_sym context gs)
