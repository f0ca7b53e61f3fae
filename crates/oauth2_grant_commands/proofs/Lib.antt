mod Requests
mod Names
mod ExchangeAnswers
mod Pushes
