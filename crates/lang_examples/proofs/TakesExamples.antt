-- Which messages a process takes that waits at label 1 of two. Its slot 1 is 7.
use Rattle.std.specs.Prelude.{◌≡◌, refl, ℕ, pos, true, false, List, [], ◌∷◌, Some, None, codes}
use Rattle.da_values.specs.declared.val.Val.{Val}
use Rattle.da_values.specs.declared.val.Val.TheVariants as val
use Rattle.da_values.specs.declared.value.Value.TheVariants as literal
use Rattle.da_lang.specs.declared.program.Class.{Class}
use Rattle.da_lang.specs.declared.program.Handler.{Handler}
use Rattle.da_lang.specs.declared.program.Item.{roll-Item}
use Rattle.da_lang.specs.declared.program.ItemKind.{ItemKind}
use Rattle.da_lang.specs.declared.program.ItemKind.TheVariants as it
use Rattle.da_lang.specs.declared.query.Pattern.{Pattern}
use Rattle.da_lang.specs.declared.query.Pattern.TheVariants.{Any, Bind, Const, Me, Equal, Tuple}
use Rattle.da_lang.specs.declared.query.Term.TheVariants as term
use Rattle.da_lang.specs.Labels.{open_handlers, takes}
use Rattle.da_lang.specs.World.{Do, World, Waiting}
use Rattle.da_lang.proofs.Computing.{taking}

-- it waits at this, with these handlers
abbrev class_with : List Handler → Class
class_with handlers = record { name = []; slots = []; params = []; setup = []; run = []; handlers = handlers; queries = []; line = 1 }

abbrev at : ItemKind → World
at kind = record {
  data' = record { me = 2; slots = val.Int (pos 7) ∷ []; sent = []; received = []; clock = 0 };
  todo = Do (roll-Item (record { line = 5; kind = kind })) ∷ [];
  phase = Waiting;
}

-- `receive ('go', ..) from .. at ..`
abbrev on_go : Pattern → Pattern → List ℕ → Handler
on_go part from at = record { message = Tuple (Const (literal.Text (codes "go")) ∷ part ∷ []); from = from; at = at; binds = []; body = []; line = 9 }

-- `('go', 4)` from process 1
abbrev go : Val
go = val.Tuple (val.Text (codes "go") ∷ val.Int (pos 4) ∷ [])

-- a handler that names no label, this one, another one, or both
without_labels : takes (class_with (on_go Any Any [] ∷ [])) (at (it.Label 1)) go 1 ≡ true
without_labels = simp taking

at_this : takes (class_with (on_go Any Any (1 ∷ []) ∷ [])) (at (it.Label 1)) go 1 ≡ true
at_this = simp taking

at_another : takes (class_with (on_go Any Any (2 ∷ []) ∷ [])) (at (it.Label 1)) go 1 ≡ false
at_another = simp taking

at_both : takes (class_with (on_go Any Any (2 ∷ 1 ∷ []) ∷ [])) (at (it.Label 1)) go 1 ≡ true
at_both = simp taking

-- at an `await` after label 1, and at one after none
after_this : takes (class_with (on_go Any Any (1 ∷ []) ∷ [])) (at (it.Await [] None (Some 1))) go 1 ≡ true
after_this = simp taking

after_none : takes (class_with (on_go Any Any (1 ∷ []) ∷ [])) (at (it.Await [] None None)) go 1 ≡ false
after_none = simp taking

everywhere : takes (class_with (on_go Any Any [] ∷ [])) (at (it.Await [] None None)) go 1 ≡ true
everywhere = simp taking

-- with no handler for it, a message is taken; so are other messages than those of a closed handler, and those of other
-- senders
no_handler : takes (class_with []) (at (it.Label 1)) go 1 ≡ true
no_handler = refl

other_message : takes (class_with (on_go (Const (literal.Int (pos 5))) Any (2 ∷ []) ∷ [])) (at (it.Label 1)) go 1 ≡ true
other_message = simp taking

other_sender : takes (class_with (on_go Any Me (2 ∷ []) ∷ [])) (at (it.Label 1)) go 1 ≡ true
other_sender = simp taking

same_sender : takes (class_with (on_go Any Me (2 ∷ []) ∷ [])) (at (it.Label 1)) go 2 ≡ false
same_sender = simp taking

-- what a slot holds does not matter, nor what a variable stands for: `=x`, `=(9, x)` and a sender `=n` may match; `=self`
-- is what it is
by_slot : takes (class_with (on_go (Equal (term.Slot 1)) Any (2 ∷ []) ∷ [])) (at (it.Label 1)) go 1 ≡ false
by_slot = simp taking

by_tuple : takes (class_with (on_go (Equal (term.Tuple (term.Const (literal.Int (pos 9)) ∷ term.Slot 1 ∷ []))) Any (2 ∷ []) ∷ [])) (at (it.Label 1)) go 1 ≡ false
by_tuple = simp taking

by_variable : takes (class_with (on_go Bind (Equal (term.Part 1)) (2 ∷ []) ∷ [])) (at (it.Label 1)) go 1 ≡ false
by_variable = simp taking

by_self : takes (class_with (on_go (Equal term.Me) Any (2 ∷ []) ∷ [])) (at (it.Label 1)) go 1 ≡ true
by_self = simp taking

-- an open handler that may match lets a message in, though a closed one may match too; one that may not does not
with_open : takes (class_with (on_go Any Any (2 ∷ []) ∷ on_go Bind Any (1 ∷ []) ∷ [])) (at (it.Label 1)) go 1 ≡ true
with_open = simp taking

with_open_other : takes (class_with (on_go Any Any (2 ∷ []) ∷ on_go Me Any (1 ∷ []) ∷ [])) (at (it.Label 1)) go 1 ≡ false
with_open_other = simp taking

-- and the open ones alone take a turn
open_alone : open_handlers (class_with (on_go Any Any (2 ∷ []) ∷ on_go Bind Any (1 ∷ []) ∷ on_go Me Any [] ∷ [])) (Do (roll-Item (record { line = 5; kind = it.Label 1 })) ∷ [])
    ≡ on_go Bind Any (1 ∷ []) ∷ on_go Me Any [] ∷ []
open_alone = simp taking
