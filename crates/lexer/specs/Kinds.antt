-- The code's kinds of statements, as document 01 has them. Assumes nothing.
use Rattle.syntax.specs.Keywords as Keywords
use Rattle.syntax.specs.Keywords.{
  NUMBER,
  PROGRAM,
  END,
  GOTO,
  EXIT,
  IF,
  SCAN,
  BACKSCAN,
  READ,
  WRITE,
  PRINT,
  ROUTINE,
  EXECUTE,
  ENDROUTINE,
  RETURN,
}
use Rattle.lexer.specs.declared.keywords.Keyword.{Keyword}
use Rattle.lexer.specs.declared.keywords.Kind as Code
use Rattle.lexer.specs.declared.keywords.Kind.{Kind}

-- the kind that a case of the code stands for
abbrev pub kind_of : Kind → Keywords.StatementKind
kind_of Code.TheVariants.Replacement = Keywords.REPLACEMENT
kind_of Code.TheVariants.Number = NUMBER
kind_of Code.TheVariants.Program = PROGRAM
kind_of Code.TheVariants.End = END
kind_of Code.TheVariants.Goto = GOTO
kind_of Code.TheVariants.Exit = EXIT
kind_of Code.TheVariants.If = IF
kind_of Code.TheVariants.Scan = SCAN
kind_of Code.TheVariants.Backscan = BACKSCAN
kind_of Code.TheVariants.Read = READ
kind_of Code.TheVariants.Write = WRITE
kind_of Code.TheVariants.Print = PRINT
kind_of Code.TheVariants.Routine = ROUTINE
kind_of Code.TheVariants.Execute = EXECUTE
kind_of Code.TheVariants.EndRoutine = ENDROUTINE
kind_of Code.TheVariants.Return = RETURN
kind_of Code.TheVariants.Unknown = Keywords.UNKNOWN

-- a keyword of the code with its kind and size
abbrev pub leads : Keyword → Keywords.Leading
leads k = record { kind = kind_of k.kind; size = k.size }
