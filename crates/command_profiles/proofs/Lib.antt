mod MergeLemmas
mod EachLemmas
mod FileLemmas
mod AnswerLemmas
