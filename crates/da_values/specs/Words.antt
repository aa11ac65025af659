-- The reserved words and the symbols, with their marks.
use Rattle.std.specs.Prelude.{ℕ, List, [], ◌∷◌, Option, find, codes, ◌==◌}
use Rattle.std.specs.Str.{bytes_eq}
use Rattle.std.specs.List.{starts_with}
use Rattle.da_values.specs.declared.token.Mark.{Mark}
use Rattle.da_values.specs.declared.token.Mark.TheVariants as m

-- a spelling and its mark
abbrev pub Entry : Type 0
Entry = List ℕ × Mark

unfoldable pub words : List Entry
words =
    (codes "channel", m.Channel) ∷ (codes "fifo", m.Fifo) ∷ (codes "unordered", m.Unordered) ∷
    (codes "reliable", m.Reliable) ∷ (codes "unreliable", m.Unreliable) ∷ (codes "message", m.Message) ∷
    (codes "class", m.Class) ∷ (codes "extends", m.Extends) ∷ (codes "process", m.Process) ∷ (codes "var", m.Var) ∷
    (codes "def", m.Def) ∷ (codes "setup", m.Setup) ∷ (codes "run", m.Run) ∷ (codes "main", m.Main) ∷
    (codes "receive", m.Receive) ∷ (codes "received", m.Received) ∷ (codes "sent", m.Sent) ∷ (codes "from", m.From) ∷
    (codes "at", m.At) ∷ (codes "send", m.Send) ∷ (codes "to", m.To) ∷ (codes "output", m.Output) ∷
    (codes "pass", m.Pass) ∷ (codes "if", m.If) ∷ (codes "elif", m.Elif) ∷ (codes "else", m.Else) ∷
    (codes "while", m.While) ∷ (codes "for", m.For) ∷ (codes "in", m.In) ∷ (codes "await", m.Await) ∷
    (codes "or", m.Or) ∷ (codes "and", m.And) ∷ (codes "not", m.Not) ∷ (codes "timeout", m.Timeout) ∷
    (codes "some", m.Some) ∷ (codes "each", m.Each) ∷ (codes "has", m.Has) ∷ (codes "count", m.Count) ∷
    (codes "sum", m.Sum) ∷ (codes "min", m.Min) ∷ (codes "max", m.Max) ∷ (codes "range", m.Range) ∷
    (codes "logical_time", m.LogicalTime) ∷ (codes "self", m.SelfWord) ∷ (codes "true", m.True) ∷
    (codes "false", m.False) ∷ (codes "new", m.New) ∷ (codes "int", m.Int) ∷ (codes "bool", m.Bool) ∷
    (codes "str", m.Str) ∷ (codes "proc", m.Proc) ∷ (codes "set", m.Set) ∷ (codes "add", m.Add) ∷
    (codes "del", m.Del) ∷ []

-- a longer spelling stands before each one that begins it
unfoldable pub symbols : List Entry
symbols =
    (codes "==", m.Equal) ∷ (codes "!=", m.NotEqual) ∷ (codes "<=", m.LessEqual) ∷ (codes ">=", m.GreaterEqual) ∷
    (codes "//", m.Slashes) ∷ (codes "--", m.Dashes) ∷ (codes "(", m.OpenParen) ∷ (codes ")", m.CloseParen) ∷
    (codes "{", m.OpenBrace) ∷ (codes "}", m.CloseBrace) ∷ (codes "[", m.OpenBracket) ∷ (codes "]", m.CloseBracket) ∷
    (codes ",", m.Comma) ∷ (codes ":", m.Colon) ∷ (codes ".", m.Dot) ∷ (codes "|", m.Bar) ∷ (codes "=", m.Assign) ∷
    (codes "<", m.Less) ∷ (codes ">", m.Greater) ∷ (codes "+", m.Plus) ∷ (codes "-", m.Minus) ∷ (codes "*", m.Star) ∷
    (codes "%", m.Percent) ∷ []

-- the entry that has this text
abbrev pub spelled : List Entry → List ℕ → Option Entry
spelled table text = find (λ entry. bytes_eq entry.0 text) table

-- the first entry that a text begins with
abbrev pub at_front : List Entry → List ℕ → Option Entry
at_front table text = find (λ entry. starts_with ◌==◌ text entry.0) table

-- the entry of the longest symbol at the front of a text
abbrev pub front_symbol : List ℕ → Option Entry
front_symbol = at_front symbols
