mod AnswerSets
mod Inputs
mod LeastModel
mod Lists
mod Passing
mod Sound
mod States
mod Visits
