-- The live patterns of three programs, and how many rows they keep.
use Rattle.std.specs.Prelude.{◌≡◌, true, false, List, [], ◌∷◌, Some, None, codes}
use Rattle.da_values.specs.declared.value.Value.TheVariants as literal
use Rattle.da_lang.specs.declared.program.Alt.{roll-Alt}
use Rattle.da_lang.specs.declared.program.Class.{Class}
use Rattle.da_lang.specs.declared.program.Item.{roll-Item}
use Rattle.da_lang.specs.declared.program.ItemKind.TheVariants as kind
use Rattle.da_lang.specs.declared.query.Cond.{Cond}
use Rattle.da_lang.specs.declared.query.Cond.TheVariants as cond
use Rattle.da_lang.specs.declared.query.LivePattern.{LivePattern}
use Rattle.da_lang.specs.declared.query.Pattern.{Pattern}
use Rattle.da_lang.specs.declared.query.Pattern.TheVariants.{Any, Bind, Const, Me, Equal, Tuple}
use Rattle.da_lang.specs.declared.query.Query.{Query}
use Rattle.da_lang.specs.declared.query.Query.TheVariants as query
use Rattle.da_lang.specs.declared.query.Source.TheVariants.{Received, Sent}
use Rattle.da_lang.specs.declared.query.Term.TheVariants as term
use Rattle.da_lang.specs.Live.{live, live_pattern, kept}
use Rattle.da_lang.proofs.LiveLaws.{living}
use Rattle.lang_examples.proofs.QueryExamples.{within, ponged, acked, acked_by_all, first_in_line, all_over_3, empty, before_pong, after_pong, lamport, ack}

-- Each `=t`.

of_variable : live_pattern (Tuple (Bind ∷ Equal (term.Part 1) ∷ [])) ≡ Tuple (Bind ∷ Bind ∷ [])
of_variable = simp living

of_slot : live_pattern (Equal (term.Tuple (term.Me ∷ term.Slot 2 ∷ []))) ≡ Bind
of_slot = simp living

of_no_variable : live_pattern (Equal (term.Tuple (term.Me ∷ []))) ≡ Equal (term.Tuple (term.Me ∷ []))
of_no_variable = simp living

-- A class that waits for a condition.

abbrev waits : List Query → Cond → Class
waits queries b = record {
  name = codes "P";
  slots = [];
  params = [];
  setup = [];
  handlers = [];
  queries = queries;
  line = 1;
  run = roll-Item (record { line = 2; kind = kind.Await (roll-Alt (record { cond = b; found = None; binds = []; body = []; line = 2 }) ∷ []) None None }) ∷ [];
}

abbrev of_empty : Class
of_empty = waits (all_over_3 ∷ []) (cond.Quant true (within Bind 1 ∷ []) None)

no_history : live of_empty ≡ []
no_history = simp living

keeps_none : kept of_empty empty ≡ 0
keeps_none = simp living

abbrev pong : Pattern
pong = Tuple (Const (literal.Text (codes "pong")) ∷ Bind ∷ [])

abbrev of_ping : Class
of_ping = waits (ponged ∷ []) (cond.Quant false (record { source = Received; message = pong; peer = Any } ∷ []) None)

abbrev of_received : Pattern → LivePattern
of_received p = record { source = Received; message = p; peer = Any }

-- twice in the class, once in the list
one_pattern : live of_ping ≡ of_received pong ∷ []
one_pattern = simp living

keeps_no_ping : kept of_ping before_pong ≡ 0
keeps_no_ping = simp living

-- the message with 6, which arrived twice, is one row, and 5 and 9 are two more
keeps_three : kept of_ping after_pong ≡ 3
keeps_three = simp living

abbrev of_lamport : Class
of_lamport = waits (first_in_line ∷ acked_by_all ∷ []) (cond.And (cond.Quant true (within (Tuple (Bind ∷ Bind ∷ [])) 2 ∷ []) None ∷ cond.Quant true (within Bind 1 ∷ []) (Some acked) ∷ []))

acks : live of_lamport ≡ of_received (Tuple (Const (literal.Text (codes "ack")) ∷ Bind ∷ Bind ∷ [])) ∷ []
acks = simp living

keeps_two : kept of_lamport (lamport [] (ack 5 1 ∷ ack 4 3 ∷ ack 5 1 ∷ [])) ≡ 2
keeps_two = simp living

-- a constant after `=` is another pattern than the constant
abbrev of_both : Class
of_both = waits (query.Quant false (record { source = Sent; message = Me; peer = Any } ∷ record { source = Sent; message = Equal term.Me; peer = Any } ∷ []) None ∷ []) (cond.Truth (term.Const (literal.Bool false)))

two_patterns : live of_both ≡ record { source = Sent; message = Me; peer = Any } ∷ record { source = Sent; message = Equal term.Me; peer = Any } ∷ []
two_patterns = simp living
