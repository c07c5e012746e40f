pub mod WatchingLaws
