mod NodeExamples
mod SeenExamples
mod WorkExamples
