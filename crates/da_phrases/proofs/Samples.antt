-- One spelling of each mark, the shortest there is.
use Rattle.std.proofs.Common.{◌≡◌, ℕ, ◌≤◌, List, [], ◌∷◌, ◌++◌, length, refl, ap, arith}
use Rattle.std.specs.Prelude.{codes}
use Rattle.da_values.specs.declared.token.Mark.{Mark}
use Rattle.da_values.specs.declared.token.Mark.TheVariants as m
use Rattle.da_values.specs.Marks.{Tok}

-- its bytes
abbrev pub sample_text : Mark → List ℕ
sample_text m.Number = codes "0"
sample_text m.Quoted = codes "''"
sample_text m.Name = codes "a"
sample_text m.Wild = codes "_"
sample_text m.Newline = []
sample_text m.Indent = []
sample_text m.Dedent = []
sample_text m.Channel = codes "channel"
sample_text m.Fifo = codes "fifo"
sample_text m.Unordered = codes "unordered"
sample_text m.Reliable = codes "reliable"
sample_text m.Unreliable = codes "unreliable"
sample_text m.Message = codes "message"
sample_text m.Class = codes "class"
sample_text m.Extends = codes "extends"
sample_text m.Process = codes "process"
sample_text m.Var = codes "var"
sample_text m.Def = codes "def"
sample_text m.Setup = codes "setup"
sample_text m.Run = codes "run"
sample_text m.Main = codes "main"
sample_text m.Receive = codes "receive"
sample_text m.Received = codes "received"
sample_text m.Sent = codes "sent"
sample_text m.From = codes "from"
sample_text m.At = codes "at"
sample_text m.Send = codes "send"
sample_text m.To = codes "to"
sample_text m.Output = codes "output"
sample_text m.Pass = codes "pass"
sample_text m.If = codes "if"
sample_text m.Elif = codes "elif"
sample_text m.Else = codes "else"
sample_text m.While = codes "while"
sample_text m.For = codes "for"
sample_text m.In = codes "in"
sample_text m.Await = codes "await"
sample_text m.Or = codes "or"
sample_text m.And = codes "and"
sample_text m.Not = codes "not"
sample_text m.Timeout = codes "timeout"
sample_text m.Some = codes "some"
sample_text m.Each = codes "each"
sample_text m.Has = codes "has"
sample_text m.Count = codes "count"
sample_text m.Sum = codes "sum"
sample_text m.Min = codes "min"
sample_text m.Max = codes "max"
sample_text m.Range = codes "range"
sample_text m.LogicalTime = codes "logical_time"
sample_text m.SelfWord = codes "self"
sample_text m.True = codes "true"
sample_text m.False = codes "false"
sample_text m.New = codes "new"
sample_text m.Int = codes "int"
sample_text m.Bool = codes "bool"
sample_text m.Str = codes "str"
sample_text m.Proc = codes "proc"
sample_text m.Set = codes "set"
sample_text m.Add = codes "add"
sample_text m.Del = codes "del"
sample_text m.Equal = codes "=="
sample_text m.NotEqual = codes "!="
sample_text m.LessEqual = codes "<="
sample_text m.GreaterEqual = codes ">="
sample_text m.Slashes = codes "//"
sample_text m.Dashes = codes "--"
sample_text m.OpenParen = codes "("
sample_text m.CloseParen = codes ")"
sample_text m.OpenBrace = codes "{"
sample_text m.CloseBrace = codes "}"
sample_text m.OpenBracket = codes "["
sample_text m.CloseBracket = codes "]"
sample_text m.Comma = codes ","
sample_text m.Colon = codes ":"
sample_text m.Dot = codes "."
sample_text m.Bar = codes "|"
sample_text m.Assign = codes "="
sample_text m.Less = codes "<"
sample_text m.Greater = codes ">"
sample_text m.Plus = codes "+"
sample_text m.Minus = codes "-"
sample_text m.Star = codes "*"
sample_text m.Percent = codes "%"

-- a token of this mark
abbrev pub sample : Mark → Tok
sample k = record { mark = k; text = sample_text k; line = 1 }

-- tokens of these marks, before others
abbrev pub onto : List Mark → List Tok → List Tok
onto [] s = s
onto (k ∷ ks) s = sample k ∷ onto ks s

pub onto_append : (v w : List Mark) (s : List Tok) → onto (v ++ w) s ≡ onto v (onto w s)
onto_append [] w s = refl
onto_append (k ∷ v) w s = ap (λ z. sample k ∷ z) (onto_append v w s)

pub onto_longer : (w : List Mark) (s : List Tok) → length s ≤ length (onto w s)
onto_longer [] s = omega arith
onto_longer (k ∷ w) s = omega (arith, onto_longer w s)
