-- The bytes of each printed word and symbol alone make one token.
use Rattle.std.proofs.Common.{◌≡◌, ℕ, List, length, refl}
use Rattle.std.specs.Prelude.{codes}
use Rattle.da_values.specs.declared.token.Mark.{Mark}
use Rattle.da_values.specs.declared.token.Mark.TheVariants as m
use Rattle.da_values.specs.declared.token.Piece.TheVariants as piece_is
use Rattle.da_values.specs.declared.token.TokenKind.TheVariants as kind
use Rattle.da_values.specs.Marks.{mark_of}
use Rattle.da_values.specs.Piece.{front, piece, name_kind}
use Rattle.da_values.specs.Words.{words, symbols}
use Rattle.da_unparse.specs.Printable.{Makes}

word : {k : Mark} {b : List ℕ} → front b ≡ piece_is.Token kind.Word (length b) → k ≡ mark_of kind.Word b → Makes k b
word s e = record { kind = kind.Word; stands = s; mark = e }

symbol : {k : Mark} {b : List ℕ} → front b ≡ piece_is.Token kind.Symbol (length b) → k ≡ mark_of kind.Symbol b → Makes k b
symbol s e = record { kind = kind.Symbol; stands = s; mark = e }

pub makes-Wild : Makes m.Wild (codes "_")
unfolding piece name_kind
makes-Wild = record { kind = kind.Wild; stands = refl; mark = refl }

-- ---- words

pub makes-Channel : Makes m.Channel (codes "channel")
unfolding piece name_kind words
makes-Channel = word refl refl

pub makes-Fifo : Makes m.Fifo (codes "fifo")
unfolding piece name_kind words
makes-Fifo = word refl refl

pub makes-Unordered : Makes m.Unordered (codes "unordered")
unfolding piece name_kind words
makes-Unordered = word refl refl

pub makes-Reliable : Makes m.Reliable (codes "reliable")
unfolding piece name_kind words
makes-Reliable = word refl refl

pub makes-Unreliable : Makes m.Unreliable (codes "unreliable")
unfolding piece name_kind words
makes-Unreliable = word refl refl

pub makes-Message : Makes m.Message (codes "message")
unfolding piece name_kind words
makes-Message = word refl refl

pub makes-Class : Makes m.Class (codes "class")
unfolding piece name_kind words
makes-Class = word refl refl

pub makes-Extends : Makes m.Extends (codes "extends")
unfolding piece name_kind words
makes-Extends = word refl refl

pub makes-Process : Makes m.Process (codes "process")
unfolding piece name_kind words
makes-Process = word refl refl

pub makes-Var : Makes m.Var (codes "var")
unfolding piece name_kind words
makes-Var = word refl refl

pub makes-Def : Makes m.Def (codes "def")
unfolding piece name_kind words
makes-Def = word refl refl

pub makes-Setup : Makes m.Setup (codes "setup")
unfolding piece name_kind words
makes-Setup = word refl refl

pub makes-Run : Makes m.Run (codes "run")
unfolding piece name_kind words
makes-Run = word refl refl

pub makes-Main : Makes m.Main (codes "main")
unfolding piece name_kind words
makes-Main = word refl refl

pub makes-Receive : Makes m.Receive (codes "receive")
unfolding piece name_kind words
makes-Receive = word refl refl

pub makes-Received : Makes m.Received (codes "received")
unfolding piece name_kind words
makes-Received = word refl refl

pub makes-Sent : Makes m.Sent (codes "sent")
unfolding piece name_kind words
makes-Sent = word refl refl

pub makes-From : Makes m.From (codes "from")
unfolding piece name_kind words
makes-From = word refl refl

pub makes-At : Makes m.At (codes "at")
unfolding piece name_kind words
makes-At = word refl refl

pub makes-Send : Makes m.Send (codes "send")
unfolding piece name_kind words
makes-Send = word refl refl

pub makes-To : Makes m.To (codes "to")
unfolding piece name_kind words
makes-To = word refl refl

pub makes-Output : Makes m.Output (codes "output")
unfolding piece name_kind words
makes-Output = word refl refl

pub makes-Pass : Makes m.Pass (codes "pass")
unfolding piece name_kind words
makes-Pass = word refl refl

pub makes-If : Makes m.If (codes "if")
unfolding piece name_kind words
makes-If = word refl refl

pub makes-Elif : Makes m.Elif (codes "elif")
unfolding piece name_kind words
makes-Elif = word refl refl

pub makes-Else : Makes m.Else (codes "else")
unfolding piece name_kind words
makes-Else = word refl refl

pub makes-While : Makes m.While (codes "while")
unfolding piece name_kind words
makes-While = word refl refl

pub makes-For : Makes m.For (codes "for")
unfolding piece name_kind words
makes-For = word refl refl

pub makes-In : Makes m.In (codes "in")
unfolding piece name_kind words
makes-In = word refl refl

pub makes-Await : Makes m.Await (codes "await")
unfolding piece name_kind words
makes-Await = word refl refl

pub makes-Or : Makes m.Or (codes "or")
unfolding piece name_kind words
makes-Or = word refl refl

pub makes-And : Makes m.And (codes "and")
unfolding piece name_kind words
makes-And = word refl refl

pub makes-Not : Makes m.Not (codes "not")
unfolding piece name_kind words
makes-Not = word refl refl

pub makes-Timeout : Makes m.Timeout (codes "timeout")
unfolding piece name_kind words
makes-Timeout = word refl refl

pub makes-Some : Makes m.Some (codes "some")
unfolding piece name_kind words
makes-Some = word refl refl

pub makes-Each : Makes m.Each (codes "each")
unfolding piece name_kind words
makes-Each = word refl refl

pub makes-Count : Makes m.Count (codes "count")
unfolding piece name_kind words
makes-Count = word refl refl

pub makes-Sum : Makes m.Sum (codes "sum")
unfolding piece name_kind words
makes-Sum = word refl refl

pub makes-Min : Makes m.Min (codes "min")
unfolding piece name_kind words
makes-Min = word refl refl

pub makes-Max : Makes m.Max (codes "max")
unfolding piece name_kind words
makes-Max = word refl refl

pub makes-Range : Makes m.Range (codes "range")
unfolding piece name_kind words
makes-Range = word refl refl

pub makes-LogicalTime : Makes m.LogicalTime (codes "logical_time")
unfolding piece name_kind words
makes-LogicalTime = word refl refl

pub makes-SelfWord : Makes m.SelfWord (codes "self")
unfolding piece name_kind words
makes-SelfWord = word refl refl

pub makes-True : Makes m.True (codes "true")
unfolding piece name_kind words
makes-True = word refl refl

pub makes-False : Makes m.False (codes "false")
unfolding piece name_kind words
makes-False = word refl refl

pub makes-New : Makes m.New (codes "new")
unfolding piece name_kind words
makes-New = word refl refl

pub makes-Int : Makes m.Int (codes "int")
unfolding piece name_kind words
makes-Int = word refl refl

pub makes-Bool : Makes m.Bool (codes "bool")
unfolding piece name_kind words
makes-Bool = word refl refl

pub makes-Str : Makes m.Str (codes "str")
unfolding piece name_kind words
makes-Str = word refl refl

pub makes-Proc : Makes m.Proc (codes "proc")
unfolding piece name_kind words
makes-Proc = word refl refl

pub makes-Set : Makes m.Set (codes "set")
unfolding piece name_kind words
makes-Set = word refl refl

pub makes-Add : Makes m.Add (codes "add")
unfolding piece name_kind words
makes-Add = word refl refl

pub makes-Del : Makes m.Del (codes "del")
unfolding piece name_kind words
makes-Del = word refl refl

-- ---- symbols

pub makes-Equal : Makes m.Equal (codes "==")
unfolding piece symbols
makes-Equal = symbol refl refl

pub makes-NotEqual : Makes m.NotEqual (codes "!=")
unfolding piece symbols
makes-NotEqual = symbol refl refl

pub makes-LessEqual : Makes m.LessEqual (codes "<=")
unfolding piece symbols
makes-LessEqual = symbol refl refl

pub makes-GreaterEqual : Makes m.GreaterEqual (codes ">=")
unfolding piece symbols
makes-GreaterEqual = symbol refl refl

pub makes-Slashes : Makes m.Slashes (codes "//")
unfolding piece symbols
makes-Slashes = symbol refl refl

pub makes-Dashes : Makes m.Dashes (codes "--")
unfolding piece symbols
makes-Dashes = symbol refl refl

pub makes-OpenParen : Makes m.OpenParen (codes "(")
unfolding piece symbols
makes-OpenParen = symbol refl refl

pub makes-CloseParen : Makes m.CloseParen (codes ")")
unfolding piece symbols
makes-CloseParen = symbol refl refl

pub makes-OpenBrace : Makes m.OpenBrace (codes "{")
unfolding piece symbols
makes-OpenBrace = symbol refl refl

pub makes-CloseBrace : Makes m.CloseBrace (codes "}")
unfolding piece symbols
makes-CloseBrace = symbol refl refl

pub makes-OpenBracket : Makes m.OpenBracket (codes "[")
unfolding piece symbols
makes-OpenBracket = symbol refl refl

pub makes-CloseBracket : Makes m.CloseBracket (codes "]")
unfolding piece symbols
makes-CloseBracket = symbol refl refl

pub makes-Comma : Makes m.Comma (codes ",")
unfolding piece symbols
makes-Comma = symbol refl refl

pub makes-Colon : Makes m.Colon (codes ":")
unfolding piece symbols
makes-Colon = symbol refl refl

pub makes-Dot : Makes m.Dot (codes ".")
unfolding piece symbols
makes-Dot = symbol refl refl

pub makes-Bar : Makes m.Bar (codes "|")
unfolding piece symbols
makes-Bar = symbol refl refl

pub makes-Assign : Makes m.Assign (codes "=")
unfolding piece symbols
makes-Assign = symbol refl refl

pub makes-Less : Makes m.Less (codes "<")
unfolding piece symbols
makes-Less = symbol refl refl

pub makes-Greater : Makes m.Greater (codes ">")
unfolding piece symbols
makes-Greater = symbol refl refl

pub makes-Plus : Makes m.Plus (codes "+")
unfolding piece symbols
makes-Plus = symbol refl refl

pub makes-Minus : Makes m.Minus (codes "-")
unfolding piece symbols
makes-Minus = symbol refl refl

pub makes-Star : Makes m.Star (codes "*")
unfolding piece symbols
makes-Star = symbol refl refl

pub makes-Percent : Makes m.Percent (codes "%")
unfolding piece symbols
makes-Percent = symbol refl refl
