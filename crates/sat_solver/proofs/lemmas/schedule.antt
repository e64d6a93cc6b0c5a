pub mod GapLemmas
pub mod ProgressLemmas
pub mod RankLemmas
pub mod SolvingLemmas
