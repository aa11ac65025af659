-- The lines by which a program is accepted or refused, and by which a schedule or traces are refused.
use Rattle.std.specs.Prelude.{ℕ, List, ◌++◌, codes, decimal}
use Rattle.std.specs.List.{flat_map}
use Rattle.da_lang.specs.declared.event.Event.{Event}
use Rattle.sched_text.specs.EventText.{event_line}
use Rattle.da_front.specs.declared.refusal.RefusedKind.{RefusedKind}
use Rattle.da_front.specs.declared.refusal.RefusedKind.TheVariants.{Size, Byte, Indent, Token, Unclosed, Syntax, Deep, Unknown, Twice, Shadow, Recursive, Yield, Setup, NoRun, Arity, Classes, Processes, Items, Blocks, Variables, Parts, Generators, Types, Nodes, Infer, Me, Traces, Watch}

abbrev pub refused_word : RefusedKind → List ℕ
refused_word Size = codes "size"
refused_word Byte = codes "byte"
refused_word Indent = codes "indent"
refused_word Token = codes "token"
refused_word Unclosed = codes "unclosed"
refused_word Syntax = codes "syntax"
refused_word Deep = codes "deep"
refused_word Unknown = codes "unknown"
refused_word Twice = codes "twice"
refused_word Shadow = codes "shadow"
refused_word Recursive = codes "recursive"
refused_word Yield = codes "yield"
refused_word Setup = codes "setup"
refused_word NoRun = codes "norun"
refused_word Arity = codes "arity"
refused_word Classes = codes "classes"
refused_word Processes = codes "processes"
refused_word Items = codes "items"
refused_word Blocks = codes "blocks"
refused_word Variables = codes "variables"
refused_word Parts = codes "parts"
refused_word Generators = codes "generators"
refused_word Types = codes "type"
refused_word Nodes = codes "nodes"
refused_word Infer = codes "infer"
refused_word Me = codes "me"
refused_word Traces = codes "traces"
refused_word Watch = codes "watch"

-- the line of a refusal, and that of a bad schedule
abbrev pub refused_text : RefusedKind → ℕ → List ℕ
refused_text kind line = codes "refused " ++ refused_word kind ++ codes " " ++ decimal line ++ codes "\n"

abbrev pub badline_text : ℕ → List ℕ
badline_text line = codes "badline " ++ decimal line ++ codes "\n"

-- the line of a bad trace: its process, and which line of it is bad
abbrev pub badtrace_text : ℕ → ℕ → List ℕ
badtrace_text process line = codes "badtrace " ++ decimal process ++ codes " " ++ decimal line ++ codes "\n"

-- the line of a process that is blocked: which it is, and at which line of its trace
abbrev pub blocked_line : ℕ × ℕ → List ℕ
blocked_line block = codes "blocked " ++ decimal block.0 ++ codes " " ++ decimal block.1 ++ codes "\n"

-- the lines of events, one after the other
abbrev pub schedule_text : List Event → List ℕ
schedule_text = flat_map event_line

-- the line of an accepted program: how many classes and processes it has
abbrev pub accepted_text : ℕ → ℕ → List ℕ
accepted_text classes processes = codes "ok " ++ decimal classes ++ codes " " ++ decimal processes ++ codes "\n"
