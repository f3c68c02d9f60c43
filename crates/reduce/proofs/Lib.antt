mod Goes
mod Table
mod Standing
mod Blanked
mod ClauseTurns
mod InnerAnd
mod Deciding
