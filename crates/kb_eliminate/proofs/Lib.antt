pub mod ResolventLaws
pub mod RestoreLaws
