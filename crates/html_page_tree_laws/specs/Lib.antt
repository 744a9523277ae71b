pub mod TokensTaken
