mod Bodies
mod ObjectTokens
mod ErrorTurns
mod RewritingTurns
mod Headers
mod LawLemmas
mod Names
