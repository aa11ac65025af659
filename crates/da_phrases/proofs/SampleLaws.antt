-- Each of these tokens is spelled as its mark says.
use Rattle.std.proofs.Common.{◌≡◌, ℕ, List, [], ◌∷◌, length, refl}
use Rattle.std.proofs.lemmas.List.Elements.{All-cons}
use Rattle.std.specs.List.{All}
use Rattle.da_values.specs.declared.token.Mark.{Mark}
use Rattle.da_values.specs.declared.token.Mark.TheVariants as m
use Rattle.da_values.specs.declared.token.TokenKind.TheVariants as kind
use Rattle.da_values.specs.Marks.{Tok}
use Rattle.da_values.specs.Piece.{piece, name_kind, number, number_of, quoted}
use Rattle.da_values.specs.Words.{words, symbols}
use Rattle.da_lang.specs.Spelling.{IsSpelled, spelled}
use Rattle.da_phrases.proofs.Samples.{sample, onto}

s_Number : IsSpelled (sample m.Number)
unfolding piece number number_of
s_Number = spelled kind.Number refl refl

s_Quoted : IsSpelled (sample m.Quoted)
unfolding piece quoted
s_Quoted = spelled kind.Quoted refl refl

s_Name : IsSpelled (sample m.Name)
unfolding piece name_kind words
s_Name = spelled kind.Name refl refl

s_Wild : IsSpelled (sample m.Wild)
unfolding piece name_kind
s_Wild = spelled kind.Wild refl refl

s_Newline : IsSpelled (sample m.Newline)
s_Newline = spelled kind.Newline refl refl

s_Indent : IsSpelled (sample m.Indent)
s_Indent = spelled kind.Indent refl refl

s_Dedent : IsSpelled (sample m.Dedent)
s_Dedent = spelled kind.Dedent refl refl

s_Channel : IsSpelled (sample m.Channel)
unfolding piece name_kind words
s_Channel = spelled kind.Word refl refl

s_Fifo : IsSpelled (sample m.Fifo)
unfolding piece name_kind words
s_Fifo = spelled kind.Word refl refl

s_Unordered : IsSpelled (sample m.Unordered)
unfolding piece name_kind words
s_Unordered = spelled kind.Word refl refl

s_Reliable : IsSpelled (sample m.Reliable)
unfolding piece name_kind words
s_Reliable = spelled kind.Word refl refl

s_Unreliable : IsSpelled (sample m.Unreliable)
unfolding piece name_kind words
s_Unreliable = spelled kind.Word refl refl

s_Message : IsSpelled (sample m.Message)
unfolding piece name_kind words
s_Message = spelled kind.Word refl refl

s_Class : IsSpelled (sample m.Class)
unfolding piece name_kind words
s_Class = spelled kind.Word refl refl

s_Extends : IsSpelled (sample m.Extends)
unfolding piece name_kind words
s_Extends = spelled kind.Word refl refl

s_Process : IsSpelled (sample m.Process)
unfolding piece name_kind words
s_Process = spelled kind.Word refl refl

s_Var : IsSpelled (sample m.Var)
unfolding piece name_kind words
s_Var = spelled kind.Word refl refl

s_Def : IsSpelled (sample m.Def)
unfolding piece name_kind words
s_Def = spelled kind.Word refl refl

s_Setup : IsSpelled (sample m.Setup)
unfolding piece name_kind words
s_Setup = spelled kind.Word refl refl

s_Run : IsSpelled (sample m.Run)
unfolding piece name_kind words
s_Run = spelled kind.Word refl refl

s_Main : IsSpelled (sample m.Main)
unfolding piece name_kind words
s_Main = spelled kind.Word refl refl

s_Receive : IsSpelled (sample m.Receive)
unfolding piece name_kind words
s_Receive = spelled kind.Word refl refl

s_Received : IsSpelled (sample m.Received)
unfolding piece name_kind words
s_Received = spelled kind.Word refl refl

s_Sent : IsSpelled (sample m.Sent)
unfolding piece name_kind words
s_Sent = spelled kind.Word refl refl

s_From : IsSpelled (sample m.From)
unfolding piece name_kind words
s_From = spelled kind.Word refl refl

s_At : IsSpelled (sample m.At)
unfolding piece name_kind words
s_At = spelled kind.Word refl refl

s_Send : IsSpelled (sample m.Send)
unfolding piece name_kind words
s_Send = spelled kind.Word refl refl

s_To : IsSpelled (sample m.To)
unfolding piece name_kind words
s_To = spelled kind.Word refl refl

s_Output : IsSpelled (sample m.Output)
unfolding piece name_kind words
s_Output = spelled kind.Word refl refl

s_Pass : IsSpelled (sample m.Pass)
unfolding piece name_kind words
s_Pass = spelled kind.Word refl refl

s_If : IsSpelled (sample m.If)
unfolding piece name_kind words
s_If = spelled kind.Word refl refl

s_Elif : IsSpelled (sample m.Elif)
unfolding piece name_kind words
s_Elif = spelled kind.Word refl refl

s_Else : IsSpelled (sample m.Else)
unfolding piece name_kind words
s_Else = spelled kind.Word refl refl

s_While : IsSpelled (sample m.While)
unfolding piece name_kind words
s_While = spelled kind.Word refl refl

s_For : IsSpelled (sample m.For)
unfolding piece name_kind words
s_For = spelled kind.Word refl refl

s_In : IsSpelled (sample m.In)
unfolding piece name_kind words
s_In = spelled kind.Word refl refl

s_Await : IsSpelled (sample m.Await)
unfolding piece name_kind words
s_Await = spelled kind.Word refl refl

s_Or : IsSpelled (sample m.Or)
unfolding piece name_kind words
s_Or = spelled kind.Word refl refl

s_And : IsSpelled (sample m.And)
unfolding piece name_kind words
s_And = spelled kind.Word refl refl

s_Not : IsSpelled (sample m.Not)
unfolding piece name_kind words
s_Not = spelled kind.Word refl refl

s_Timeout : IsSpelled (sample m.Timeout)
unfolding piece name_kind words
s_Timeout = spelled kind.Word refl refl

s_Some : IsSpelled (sample m.Some)
unfolding piece name_kind words
s_Some = spelled kind.Word refl refl

s_Each : IsSpelled (sample m.Each)
unfolding piece name_kind words
s_Each = spelled kind.Word refl refl

s_Has : IsSpelled (sample m.Has)
unfolding piece name_kind words
s_Has = spelled kind.Word refl refl

s_Count : IsSpelled (sample m.Count)
unfolding piece name_kind words
s_Count = spelled kind.Word refl refl

s_Sum : IsSpelled (sample m.Sum)
unfolding piece name_kind words
s_Sum = spelled kind.Word refl refl

s_Min : IsSpelled (sample m.Min)
unfolding piece name_kind words
s_Min = spelled kind.Word refl refl

s_Max : IsSpelled (sample m.Max)
unfolding piece name_kind words
s_Max = spelled kind.Word refl refl

s_Range : IsSpelled (sample m.Range)
unfolding piece name_kind words
s_Range = spelled kind.Word refl refl

s_LogicalTime : IsSpelled (sample m.LogicalTime)
unfolding piece name_kind words
s_LogicalTime = spelled kind.Word refl refl

s_SelfWord : IsSpelled (sample m.SelfWord)
unfolding piece name_kind words
s_SelfWord = spelled kind.Word refl refl

s_True : IsSpelled (sample m.True)
unfolding piece name_kind words
s_True = spelled kind.Word refl refl

s_False : IsSpelled (sample m.False)
unfolding piece name_kind words
s_False = spelled kind.Word refl refl

s_New : IsSpelled (sample m.New)
unfolding piece name_kind words
s_New = spelled kind.Word refl refl

s_Int : IsSpelled (sample m.Int)
unfolding piece name_kind words
s_Int = spelled kind.Word refl refl

s_Bool : IsSpelled (sample m.Bool)
unfolding piece name_kind words
s_Bool = spelled kind.Word refl refl

s_Str : IsSpelled (sample m.Str)
unfolding piece name_kind words
s_Str = spelled kind.Word refl refl

s_Proc : IsSpelled (sample m.Proc)
unfolding piece name_kind words
s_Proc = spelled kind.Word refl refl

s_Set : IsSpelled (sample m.Set)
unfolding piece name_kind words
s_Set = spelled kind.Word refl refl

s_Add : IsSpelled (sample m.Add)
unfolding piece name_kind words
s_Add = spelled kind.Word refl refl

s_Del : IsSpelled (sample m.Del)
unfolding piece name_kind words
s_Del = spelled kind.Word refl refl

s_Equal : IsSpelled (sample m.Equal)
unfolding piece symbols
s_Equal = spelled kind.Symbol refl refl

s_NotEqual : IsSpelled (sample m.NotEqual)
unfolding piece symbols
s_NotEqual = spelled kind.Symbol refl refl

s_LessEqual : IsSpelled (sample m.LessEqual)
unfolding piece symbols
s_LessEqual = spelled kind.Symbol refl refl

s_GreaterEqual : IsSpelled (sample m.GreaterEqual)
unfolding piece symbols
s_GreaterEqual = spelled kind.Symbol refl refl

s_Slashes : IsSpelled (sample m.Slashes)
unfolding piece symbols
s_Slashes = spelled kind.Symbol refl refl

s_Dashes : IsSpelled (sample m.Dashes)
unfolding piece symbols
s_Dashes = spelled kind.Symbol refl refl

s_OpenParen : IsSpelled (sample m.OpenParen)
unfolding piece symbols
s_OpenParen = spelled kind.Symbol refl refl

s_CloseParen : IsSpelled (sample m.CloseParen)
unfolding piece symbols
s_CloseParen = spelled kind.Symbol refl refl

s_OpenBrace : IsSpelled (sample m.OpenBrace)
unfolding piece symbols
s_OpenBrace = spelled kind.Symbol refl refl

s_CloseBrace : IsSpelled (sample m.CloseBrace)
unfolding piece symbols
s_CloseBrace = spelled kind.Symbol refl refl

s_OpenBracket : IsSpelled (sample m.OpenBracket)
unfolding piece symbols
s_OpenBracket = spelled kind.Symbol refl refl

s_CloseBracket : IsSpelled (sample m.CloseBracket)
unfolding piece symbols
s_CloseBracket = spelled kind.Symbol refl refl

s_Comma : IsSpelled (sample m.Comma)
unfolding piece symbols
s_Comma = spelled kind.Symbol refl refl

s_Colon : IsSpelled (sample m.Colon)
unfolding piece symbols
s_Colon = spelled kind.Symbol refl refl

s_Dot : IsSpelled (sample m.Dot)
unfolding piece symbols
s_Dot = spelled kind.Symbol refl refl

s_Bar : IsSpelled (sample m.Bar)
unfolding piece symbols
s_Bar = spelled kind.Symbol refl refl

s_Assign : IsSpelled (sample m.Assign)
unfolding piece symbols
s_Assign = spelled kind.Symbol refl refl

s_Less : IsSpelled (sample m.Less)
unfolding piece symbols
s_Less = spelled kind.Symbol refl refl

s_Greater : IsSpelled (sample m.Greater)
unfolding piece symbols
s_Greater = spelled kind.Symbol refl refl

s_Plus : IsSpelled (sample m.Plus)
unfolding piece symbols
s_Plus = spelled kind.Symbol refl refl

s_Minus : IsSpelled (sample m.Minus)
unfolding piece symbols
s_Minus = spelled kind.Symbol refl refl

s_Star : IsSpelled (sample m.Star)
unfolding piece symbols
s_Star = spelled kind.Symbol refl refl

s_Percent : IsSpelled (sample m.Percent)
unfolding piece symbols
s_Percent = spelled kind.Symbol refl refl

pub sample-spelled : (k : Mark) → IsSpelled (sample k)
sample-spelled m.Number = s_Number
sample-spelled m.Quoted = s_Quoted
sample-spelled m.Name = s_Name
sample-spelled m.Wild = s_Wild
sample-spelled m.Newline = s_Newline
sample-spelled m.Indent = s_Indent
sample-spelled m.Dedent = s_Dedent
sample-spelled m.Channel = s_Channel
sample-spelled m.Fifo = s_Fifo
sample-spelled m.Unordered = s_Unordered
sample-spelled m.Reliable = s_Reliable
sample-spelled m.Unreliable = s_Unreliable
sample-spelled m.Message = s_Message
sample-spelled m.Class = s_Class
sample-spelled m.Extends = s_Extends
sample-spelled m.Process = s_Process
sample-spelled m.Var = s_Var
sample-spelled m.Def = s_Def
sample-spelled m.Setup = s_Setup
sample-spelled m.Run = s_Run
sample-spelled m.Main = s_Main
sample-spelled m.Receive = s_Receive
sample-spelled m.Received = s_Received
sample-spelled m.Sent = s_Sent
sample-spelled m.From = s_From
sample-spelled m.At = s_At
sample-spelled m.Send = s_Send
sample-spelled m.To = s_To
sample-spelled m.Output = s_Output
sample-spelled m.Pass = s_Pass
sample-spelled m.If = s_If
sample-spelled m.Elif = s_Elif
sample-spelled m.Else = s_Else
sample-spelled m.While = s_While
sample-spelled m.For = s_For
sample-spelled m.In = s_In
sample-spelled m.Await = s_Await
sample-spelled m.Or = s_Or
sample-spelled m.And = s_And
sample-spelled m.Not = s_Not
sample-spelled m.Timeout = s_Timeout
sample-spelled m.Some = s_Some
sample-spelled m.Each = s_Each
sample-spelled m.Has = s_Has
sample-spelled m.Count = s_Count
sample-spelled m.Sum = s_Sum
sample-spelled m.Min = s_Min
sample-spelled m.Max = s_Max
sample-spelled m.Range = s_Range
sample-spelled m.LogicalTime = s_LogicalTime
sample-spelled m.SelfWord = s_SelfWord
sample-spelled m.True = s_True
sample-spelled m.False = s_False
sample-spelled m.New = s_New
sample-spelled m.Int = s_Int
sample-spelled m.Bool = s_Bool
sample-spelled m.Str = s_Str
sample-spelled m.Proc = s_Proc
sample-spelled m.Set = s_Set
sample-spelled m.Add = s_Add
sample-spelled m.Del = s_Del
sample-spelled m.Equal = s_Equal
sample-spelled m.NotEqual = s_NotEqual
sample-spelled m.LessEqual = s_LessEqual
sample-spelled m.GreaterEqual = s_GreaterEqual
sample-spelled m.Slashes = s_Slashes
sample-spelled m.Dashes = s_Dashes
sample-spelled m.OpenParen = s_OpenParen
sample-spelled m.CloseParen = s_CloseParen
sample-spelled m.OpenBrace = s_OpenBrace
sample-spelled m.CloseBrace = s_CloseBrace
sample-spelled m.OpenBracket = s_OpenBracket
sample-spelled m.CloseBracket = s_CloseBracket
sample-spelled m.Comma = s_Comma
sample-spelled m.Colon = s_Colon
sample-spelled m.Dot = s_Dot
sample-spelled m.Bar = s_Bar
sample-spelled m.Assign = s_Assign
sample-spelled m.Less = s_Less
sample-spelled m.Greater = s_Greater
sample-spelled m.Plus = s_Plus
sample-spelled m.Minus = s_Minus
sample-spelled m.Star = s_Star
sample-spelled m.Percent = s_Percent

-- and so are tokens before others that are
pub onto-spelled : (w : List Mark) (s : List Tok) → All IsSpelled s → All IsSpelled (onto w s)
onto-spelled [] s all = all
onto-spelled (k ∷ w) s all = All-cons IsSpelled (sample k) (onto w s) (sample-spelled k) (onto-spelled w s all)
