-- What the functions give, over the type that only the code has.
use Rattle.tokens.specs.Tokens.{Lexeme}
use Rattle.tokens.specs.declared.Lexed.{Lexed}

-- the lexeme that the code's own stands for: each stands for one, and no two for the same
abbrev pub lexeme_of : Lexed → Lexeme
lexeme_of lexed = record { token = lexed.token; place = lexed.place; next = lexed.next }
