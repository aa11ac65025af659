use Rattle.std.proofs.Common.{◌≡◌, flat_map, take}
use Rattle.sched_text.specs.EventText.{event_line}
use Rattle.da_commands.proofs.lines.event_lines.Given as goal

abbrev pub invariant-loop-event : goal.invariant-loop-event
invariant-loop-event l = l.text ≡ flat_map event_line (take l.event-index l.events)
