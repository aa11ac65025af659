-- Links in memory.
use Rattle.std.specs.Prelude.{ℕ, List, drop}
use Rattle.da_outside.specs.declared.link.LinkAnswer.{LinkAnswer}
use Rattle.da_outside.specs.declared.link.LinkEntry.{LinkEntry}
use Rattle.da_outside.specs.declared.script.Script.{Script}
use Rattle.da_outside.specs.declared.script_link.ScriptLink.{ScriptLink}

-- the answers that are still to come
abbrev pub answers_of : ScriptLink → List LinkAnswer
answers_of link = drop link.next link.answers

-- the content, the number of processes, and when the calls fail
abbrev pub entries_of : ScriptLink → List LinkEntry
entries_of link = link.told

abbrev pub count_of : ScriptLink → ℕ
count_of link = link.count

abbrev pub calls_of : ScriptLink → Script
calls_of link = link.script
